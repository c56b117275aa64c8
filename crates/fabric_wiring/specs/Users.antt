-- A user of a clock that was found, as a fault.
use Rattle.std.specs.Prelude.{Option, Some, None}
use Rattle.fabric_model.specs.Faults.{Fault}
use Rattle.fabric_model.specs.Faults.Fault.{clock}
use Rattle.fabric_wiring.specs.declared.users.Unclocked.{Unclocked}

abbrev pub fault_of : Option Unclocked → Option Fault
fault_of None = None
fault_of (Some found) = Some (clock found.x found.y found.user found.net)
