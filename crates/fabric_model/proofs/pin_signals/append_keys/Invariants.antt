use Rattle.std.proofs.Common.{◌≡◌, ◌++◌, map, take}
use Rattle.fabric_model.specs.Registers.{key_in}
use Rattle.fabric_model.specs.PinKeys.{key_of}
use Rattle.fabric_model.proofs.pin_signals.append_keys.Given as goal

abbrev pub invariant-loop-register : goal.invariant-loop-register
invariant-loop-register l =
    map key_of l.keys.items ≡ map key_of l.initial.keys.items ++ map (key_in l.pin) (take l.register-index l.register-items)
