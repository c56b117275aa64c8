-- Drivers that are entered one after the other.
use Rattle.std.specs.Prelude.{◌≡◌, ℕ, ◌<◌, List, [], ◌∷◌, ◌++◌, length, map, filter, slice_get, get_or, option_and_then, ◌==◌, nat_lt, if◌then◌else◌, option_to_list, Option, Some, None}
use Rattle.index_search.specs.Places.{gathered_below}
use Rattle.fabric_model.specs.Links.{LinkSet, class_in}
use Rattle.fabric_model.specs.Tiles.{first_of}
use Rattle.fabric_model.specs.Faults.{Fault, drivers_fault}
use Rattle.fabric_model.specs.Faults.Fault.{two_drivers}
use Rattle.fabric_wiring.specs.declared.drive.Drive.{Drive as KeptDrive}
use Rattle.fabric_wiring.specs.declared.twice.Twice.{Twice}
use Rattle.fabric_wiring.specs.Drives.{drive_of}

-- the net of a driver is among the nets
abbrev pub IsDriveIn : LinkSet → KeptDrive → Type 0
IsDriveIn links drive = drive.net < length links.classes

-- the drivers of a class of joined nets, in their order
abbrev pub drivers_in : LinkSet → List KeptDrive → ℕ → List KeptDrive
drivers_in links drives class = filter (λ drive. class_in links drive.net == class) drives

-- the fault of a class of joined nets with these drivers
abbrev pub fault_in : (ℕ → List KeptDrive) → ℕ → List Fault
fault_in given class = drivers_fault class (map drive_of (given class))

-- classes of joined nets with two drivers or more
unfoldable pub faults_in : LinkSet → List KeptDrive → List Fault
faults_in links drives = gathered_below (length links.classes) (fault_in (drivers_in links drives))

-- the lesser of two classes of joined nets; the one that was found before if they are the same
abbrev pub lesser : Option Twice → Twice → Option Twice
lesser None found = Some found
lesser (Some kept) found = if nat_lt found.net kept.net then Some found else Some kept

-- the least class of joined nets below a bound that has a fault
pub record IsLeastFault (count : ℕ) (given : ℕ → List Fault) (twice : Twice) : Type 0 where
  pub within : twice.net < count
  pub here : given twice.net ≡ two_drivers twice.net twice.first twice.second ∷ []
  pub before : (class : ℕ) → class < twice.net → given class ≡ []

-- the least class of joined nets below a bound that has a fault, or none if none has one
abbrev pub IsFirstFault : ℕ → (ℕ → List Fault) → Option Twice → Type 0
IsFirstFault count given None = (class : ℕ) → class < count → given class ≡ []
IsFirstFault count given (Some twice) = IsLeastFault count given twice

-- what is kept after classes of joined nets were given some of the drivers: for each class the index of its first driver, and the least
-- class with two
pub record ArePassed (drives : List KeptDrive) (given : ℕ → List KeptDrive) (places : List (Option ℕ)) (twice : Option Twice) : Type 0 where
  pub firsts : (class : ℕ) → class < length places → option_and_then (slice_get drives) (get_or places class None) ≡ first_of (given class)
  pub least : IsFirstFault (length places) (fault_in given) twice

-- what classes of joined nets are given, if one of them is also given the driver with an index
abbrev pub and_driver : (ℕ → List KeptDrive) → List KeptDrive → ℕ → ℕ → ℕ → List KeptDrive
and_driver given drives place to class = given class ++ (if to == class then option_to_list (slice_get drives place) else [])
