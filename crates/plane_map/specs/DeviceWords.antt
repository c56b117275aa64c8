-- The words for the devices in texts: those of `.device` in Project IceStorm, 'iCE40 ASCII format'.
use Rattle.std.specs.Prelude.{ℕ, List, bytes_eq, codes, if◌then◌else◌, Option, Some, None}
use Rattle.plane_map.specs.declared.device.DeviceName.{DeviceName}
use Rattle.plane_map.specs.declared.device.DeviceName.TheVariants.{Lp384, Hx1k, Hx8k}
use Rattle.plane_map.specs.Devices.{has_database}

abbrev pub device_word : DeviceName → List ℕ
device_word Lp384 = codes "384"
device_word Hx1k = codes "1k"
device_word Hx8k = codes "8k"

-- the device that a word names
abbrev pub device_named : List ℕ → Option DeviceName
device_named word =
    if bytes_eq word (device_word Lp384) then Some Lp384
    else if bytes_eq word (device_word Hx1k) then Some Hx1k
    else if bytes_eq word (device_word Hx8k) then Some Hx8k
    else None

-- the device, if it has chip databases
abbrev pub with_database : Option DeviceName → Option DeviceName
with_database None = None
with_database (Some device) = if has_database device then Some device else None

-- the device that a word names in a chip database, and wherever a chip database is needed
abbrev pub database_device_named : List ℕ → Option DeviceName
database_device_named word = with_database (device_named word)
