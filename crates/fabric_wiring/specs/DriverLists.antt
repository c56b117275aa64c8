-- The drivers that are kept, and when they are the drivers of a fabric.
use Rattle.std.specs.Prelude.{◌≡◌, ℕ, ◌<◌, Bool, is_some, List, length, map, slice_get, get_or, option_and_then, option_to_list, Option, None}
use Rattle.fabric_model.specs.Fabric.{Fabric}
use Rattle.fabric_model.specs.Drivers.{drivers_of}
use Rattle.fabric_model.specs.Links.{LinkSet, class_in}
use Rattle.fabric_wiring.specs.declared.drive.Drive.{Drive as KeptDrive}
use Rattle.fabric_wiring.specs.Drives.{drive_of}

-- all drivers, and for each class of joined nets the index of its driver among them, if it has one
pub record DriverSet : Type 0 where
  pub drives : List KeptDrive
  pub places : List (Option ℕ)

-- the driver of a class of joined nets
abbrev pub driver_in : DriverSet → ℕ → Option KeptDrive
driver_in drivers class = option_and_then (slice_get drivers.drives) (get_or drivers.places class None)

-- whether a net's class of joined nets has a driver
abbrev pub is_connected_in : LinkSet → DriverSet → ℕ → Bool
is_connected_in links drivers net = is_some (driver_in drivers (class_in links net))

-- Drivers are the drivers of a fabric if each class of joined nets has the driver that is kept for it and no other, and has none if none is
-- kept.
pub record AreDriversOf (fabric : Fabric) (drivers : DriverSet) : Type 0 where
  pub classes : length drivers.places ≡ fabric.nets
  pub each : (class : ℕ) → class < fabric.nets → drivers_of fabric class ≡ map drive_of (option_to_list (driver_in drivers class))
