use Rattle.std.proofs.Common.{◌≡◌, take}
use Rattle.std.specs.Prelude.{flat_map}
use Rattle.fabric_wiring.specs.First.{register_inputs, unclocked_in, first_on}
use Rattle.fabric_wiring.proofs.users.first_register.Given as goal

abbrev pub invariant-loop-register : goal.invariant-loop-register
invariant-loop-register l = l.found ≡ first_on l.device (unclocked_in l.links l.ends (flat_map register_inputs (take l.register-index l.registers)))
