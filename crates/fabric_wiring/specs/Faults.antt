-- Why drivers aren't taken.
use Rattle.std.specs.Prelude.{◌≡◌, Option, Some}
use Rattle.fabric_model.specs.Faults.{Fault}
use Rattle.fabric_model.specs.Faults.Fault.{two_drivers}
use Rattle.fabric_wiring.specs.declared.fault.DriverFault.{DriverFault}
use Rattle.fabric_wiring.specs.declared.fault.DriverFault.TheVariants.{TwoDrivers, Memory}

-- a refusal tells the fault, or that memory ran out
abbrev pub IsCause : Option Fault → DriverFault → Type 0
IsCause fault (TwoDrivers net first second) = fault ≡ Some (two_drivers net first second)
IsCause fault (Memory cause) = Unit {0}
