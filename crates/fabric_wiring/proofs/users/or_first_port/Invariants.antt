use Rattle.std.proofs.Common.{◌≡◌, ◌++◌, List, take}
use Rattle.std.specs.Prelude.{flat_map}
use Rattle.fabric_wiring.specs.declared.users.Unclocked.{Unclocked}
use Rattle.fabric_wiring.specs.First.{ram_inputs, unclocked_in, first_on}
use Rattle.fabric_wiring.proofs.users.or_first_port.Given as goal

abbrev pub invariant-loop-ram : goal.invariant-loop-ram
invariant-loop-ram l =
    (before : List Unclocked) → l.fn.first ≡ first_on l.device before
    → l.found ≡ first_on l.device (before ++ unclocked_in l.links l.ends (flat_map ram_inputs (take l.ram-index l.rams)))
