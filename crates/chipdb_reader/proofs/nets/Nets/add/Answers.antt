use Rattle.std.proofs.Common.{◌≡◌, ◌++◌, ◌∷◌, [], false, refl, sym, ap, ◌∙◌}
use Rattle.std.specs.Prelude.{is_some}
use Rattle.shared_lemmas.proofs.Options.{none_from_is_some}
use Rattle.chipdb_reader.specs.Nets.{named_net}
use Rattle.chipdb_reader.proofs.NetChanges.{adds-name}
use Rattle.chipdb_reader.proofs.Outcomes.{ok-test}
use Rattle.chipdb_reader.proofs.nets.Nets.add.Goals as goal

pub returns-clause-added : goal.returns-clause-added
returns-clause-added c =
    let pushed = ok-test c.push.result c.map_err.result c.in_ok-map_err.field-0 c.map_err.ensures.variant c.in_ok-map_err.was in
    let items : c.push.new.self.items ≡ c.args.self.now.names.items ++ c.args.name ∷ [] = rw pushed at c.push.ensures.items in
    let unnamed : is_some (named_net c.args.self.now c.args.name) ≡ false = ap is_some (sym c.get.ensures) ∙ sym c.is_some.ensures ∙ c.if-is_some.false in
    adds-name c.args.self.now (record { names = c.push.new.self; earlier = c.args.self.now.earlier; last = c.args.self.now.last; start = c.args.self.now.start; index = c.put.new.self })
    c.args.net c.args.name c.requires.indexed c.requires.last (none_from_is_some (named_net c.args.self.now c.args.name) unnamed)
    c.in_ok-put.ensures items refl refl refl
