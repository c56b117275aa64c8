use Rattle.std.proofs.Common.{refl, sym, ◌∙◌}
use Rattle.std.proofs.lemmas.Bool.{not-true}
use Rattle.std.proofs.lemmas.Result.{on_ok_weaker}
use Rattle.pin_file.specs.PortNames.{has_place}
use Rattle.pin_file.proofs.PortSteps.{grows-new}
use Rattle.pin_file.proofs.ports.Ports.accept_at.Goals as goal

pub returns-then-branch : goal.returns-then-branch
returns-then-branch c =
    on_ok_weaker c.name_at.result (λ grows.
    grows-new c.args.self.now _ c.name_at.new.self c.args.place c.args.name.now
    (not-true (has_place c.args.place c.args.self.now.places) (sym c.in_ok-insert.ensures.added ∙ c.if-branch.true))
    (record { list = refl; places = c.in_ok-insert.ensures.places; names = refl; pins = refl }) grows) c.name_at.ensures
