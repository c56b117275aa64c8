use Rattle.std.proofs.Common.{◌≡◌, ◌++◌, map, take}
use Rattle.fabric_model.specs.Registers.{pin_register}
use Rattle.fabric_parts.proofs.io.registers.append_registers.Given as goal

abbrev pub invariant-loop-register : goal.invariant-loop-register
invariant-loop-register l =
    l.registers.items ≡ l.initial.registers.items ++ map (pin_register l.signals.flips l.signals.pins l.pin) (take l.register-index l.register-items)
