use Rattle.std.proofs.Common.{◌≡◌, false, take}
use Rattle.std.specs.List.{list_any}
use Rattle.fabric_model.specs.Steps.{is_on_register}
use Rattle.fabric_wiring.proofs.clocking.clocks_register.Given as goal

abbrev pub ghost-clock_class : goal.ghost-clock_class
ghost-clock_class g a = g.fabric

abbrev pub invariant-loop-register : goal.invariant-loop-register
invariant-loop-register g l = list_any (λ register. is_on_register g.fabric register.clk) (take l.register-index l.parts.registers.items) ≡ false
