use Rattle.std.proofs.Common.{sym, ◌∙◌}
use Rattle.std.proofs.lemmas.Result.{on_ok_weaker}
use Rattle.pin_file.specs.PortNames.{port_name}
use Rattle.pin_file.proofs.PortSteps.{grows-pin}
use Rattle.pin_file.proofs.ports.Ports.name_at.Goals as goal

pub returns-in-Some : goal.returns-in-Some
returns-in-Some c =
    on_ok_weaker c.name_pin.result (λ grows.
    grows-pin c.args.self.now c.name_pin.new.self c.args.place (port_name c.args.name.now) c.in-Some.pin (sym c.at.ensures ∙ c.in-Some.is) grows) c.name_pin.ensures
