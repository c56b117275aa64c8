use Rattle.std.proofs.Common.{sym, arith}
use Rattle.chipdb_reader.specs.Kept.{database_in}
use Rattle.fabric_plls.proofs.Kept.{none-right, none-below}
use Rattle.fabric_plls.proofs.lines.net_at.Goals.{else-x-lt256-via-then-x-lt256+else-y-lt256, else-x-lt256-via-else-x-lt256}
use Rattle.fabric_plls.proofs.lines.net_at.Goals as goal

pub returns-else-x-lt256 : goal.returns-else-x-lt256
returns-else-x-lt256 c =
    let db = database_in c.args.db.now in
    elim c.else-x-lt256.branch [
      | else-x-lt256-via-then-x-lt256+else-y-lt256 w ↦ sym (none-below db.chip c.args.x c.args.y c.args.name.now db.names c.requires.names (omega (arith, w.if-y-lt256)))
      | else-x-lt256-via-else-x-lt256 w ↦ sym (none-right db.chip c.args.x c.args.y c.args.name.now db.names c.requires.names (omega (arith, w.if-x-lt256)))
    ]
