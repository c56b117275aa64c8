use Rattle.std.proofs.Common.{◌≡◌, true, sym, ap, ◌∙◌, ◌&&◌}
use Rattle.std.specs.Prelude.{is_some, not}
use Rattle.chipdb_reader.specs.Plls.{is_named}
use Rattle.chipdb_reader.proofs.PllChanges.{named-by_order}
use Rattle.chipdb_reader.proofs.plls.Plls.is_new_line.Goals as goal

pub returns-then-is_some : goal.returns-then-is_some
returns-then-is_some c =
    let begun : is_some c.args.self.now.last ≡ true = sym c.is_some.ensures ∙ c.if-is_some.true in
    let found = c.contains.ensures ∙ named-by_order c.args.self.now.names.keys c.args.name.now in
    ap not found ∙ (λ i. sym begun i && not (is_named c.args.self.now c.args.name.now))
