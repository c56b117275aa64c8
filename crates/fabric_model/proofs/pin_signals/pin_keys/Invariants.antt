use Rattle.std.proofs.Common.{◌≡◌, map, take}
use Rattle.fabric_model.specs.Registers.{pin_keys}
use Rattle.fabric_model.specs.PinKeys.{key_of}
use Rattle.fabric_model.proofs.pin_signals.pin_keys.Given as goal

abbrev pub invariant-loop-pin : goal.invariant-loop-pin
invariant-loop-pin l = map key_of l.keys.items ≡ pin_keys (take l.pin-index l.pins)
