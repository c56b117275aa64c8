use Rattle.std.proofs.Common.{◌≡◌, false, take}
use Rattle.std.specs.List.{list_any}
use Rattle.fabric_model.specs.Steps.{is_on_register}
use Rattle.fabric_wiring.proofs.clocking.clocks_ram.Given as goal

abbrev pub ghost-clock_class : goal.ghost-clock_class
ghost-clock_class g a = g.fabric

abbrev pub invariant-loop-ram : goal.invariant-loop-ram
invariant-loop-ram g l = list_any (λ ram. is_on_register g.fabric ram.rclk) (take l.ram-index l.parts.rams.items) ≡ false
