-- Which device is meant.
use Rattle.std.specs.Prelude.{ℕ, Bool, true, false, ◌==◌}
use Rattle.plane_map.specs.declared.device.DeviceName.{DeviceName}
use Rattle.plane_map.specs.declared.device.DeviceName.TheVariants.{Lp384, Hx1k, Hx8k}

-- a number of its own for each device
abbrev pub device_number : DeviceName → ℕ
device_number Lp384 = 384
device_number Hx1k = 1
device_number Hx8k = 8

-- whether two are one device
abbrev pub is_same_device : DeviceName → DeviceName → Bool
is_same_device a b = device_number a == device_number b

-- whether chip databases of it are read: none of an LP384 is
abbrev pub has_database : DeviceName → Bool
has_database Lp384 = false
has_database Hx1k = true
has_database Hx8k = true
