use Rattle.std.proofs.Common.{◌≡◌, map, take}
use Rattle.std.specs.List.{flat_map}
use Rattle.fabric_model.specs.declared.pin.Pin.{Pin}
use Rattle.fabric_model.specs.Registers.{pin_register, registers_in}
use Rattle.fabric_parts.proofs.io.registers.registers.Given as goal

abbrev pub invariant-loop-pin : goal.invariant-loop-pin
invariant-loop-pin l =
    l.registers.items ≡ flat_map (λ (pin : Pin). map (pin_register l.signals.flips l.signals.pins pin) (registers_in pin)) (take l.pin-index l.pins)
