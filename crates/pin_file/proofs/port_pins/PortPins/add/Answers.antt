use Rattle.std.proofs.Common.{sym, ap, ◌∙◌}
use Rattle.std.specs.Prelude.{is_some}
use Rattle.std.specs.Map.{lookup}
use Rattle.std.proofs.lemmas.Result.{on_ok_weaker}
use Rattle.shared_lemmas.proofs.Options.{none_from_is_some}
use Rattle.pin_file.specs.PortNames.{is_place}
use Rattle.pin_file.specs.inside.Reading.{pin_kept}
use Rattle.pin_file.proofs.PinSteps.{lookup-push, pin-stays}
use Rattle.pin_file.proofs.port_pins.PortPins.add.Goals as goal

pub returns-then-is_some : goal.returns-then-is_some
returns-then-is_some c = λ place.
    pin-stays c.args.self.now c.args.pin place (ap is_some (sym c.at.ensures) ∙ sym c.is_some.ensures ∙ c.if-is_some.true)

pub insert-requires : goal.insert-requires
insert-requires c = none_from_is_some (pin_kept c.args.self.now c.args.pin.place) (ap is_some (sym c.at.ensures) ∙ sym c.is_some.ensures ∙ c.if-is_some.false)

pub returns : goal.returns
returns c =
    on_ok_weaker c.insert.result (λ added place.
    ap (lookup (is_place place)) added ∙ lookup-push (is_place place) c.args.self.now.pins.entries c.args.pin.place c.args.pin) c.insert.ensures
