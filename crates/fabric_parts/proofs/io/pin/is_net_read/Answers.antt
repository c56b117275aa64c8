use Rattle.std.proofs.Common.{◌<◌, ℕ, length, sym, subst}
use Rattle.std.specs.Prelude.{Option, IfSome, codes}
use Rattle.chipdb_reader.specs.Kept.{database_in}
use Rattle.fabric_model.specs.Nets.{with_number}
use Rattle.fabric_model.proofs.Nets.{net_named-inside}
use Rattle.fabric_parts.proofs.Inside.{inside-more}
use Rattle.fabric_parts.proofs.io.pin.is_net_read.Goals as goal

pub is_some_read-requires : goal.is_some_read-requires
is_some_read-requires c =
    let nets = length c.args.links.now.classes in
    let Inside : Option ℕ → Type 0 = λ net. IfSome net (λ n. n < nets) in
    let known = net_named-inside (database_in c.args.db.now) c.args.x c.args.y (with_number (codes "io_") c.args.n c.args.port.now) c.requires.fit in
    subst Inside (sym c.io_net.ensures) (inside-more _ c.args.db.now.chip.nets nets c.requires.nets known)
