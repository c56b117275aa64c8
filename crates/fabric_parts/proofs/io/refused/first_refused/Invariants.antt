use Rattle.std.proofs.Common.{◌≡◌, [], take}
use Rattle.std.specs.List.{flat_map}
use Rattle.ice_image.specs.Either.{configuration_of}
use Rattle.chipdb_reader.specs.Kept.{database_in}
use Rattle.fabric_parts.specs.PinFaults.{fault_of}
use Rattle.fabric_parts.proofs.io.refused.first_refused.Given as goal

abbrev pub invariant-loop-pin : goal.invariant-loop-pin
invariant-loop-pin l = flat_map (fault_of l.all_pins (database_in l.db) (configuration_of l.image)) (take l.pin-index l.pins) ≡ []
