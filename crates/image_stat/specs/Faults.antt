-- Why a database and an image are not counted.
use Rattle.std.specs.Prelude.{◌≡◌, Bool, Option, Some}
use Rattle.ice_image.specs.Configuration.{Configuration}
use Rattle.chipdb_reader.specs.Database.{Database}
use Rattle.index_search.specs.Places.{or_else}
use Rattle.fabric_model.specs.Tiles.{first_of}
use Rattle.fabric_model.specs.Faults.{Fault, device_faults, pins_fault, rams_fault}
use Rattle.fabric_plls.specs.declared.fault.PllFault.{PllFault}
use Rattle.fabric_plls.specs.declared.fault.PllFault.TheVariants as plls
use Rattle.fabric_parts.specs.declared.io.fault.PinFault.{PinFault}
use Rattle.fabric_parts.specs.declared.io.fault.PinFault.TheVariants as pins
use Rattle.fabric_parts.specs.declared.ram.fault.RamFault.{RamFault}
use Rattle.fabric_parts.specs.declared.ram.fault.RamFault.TheVariants as rams
use Rattle.image_stat.specs.declared.fault.StatFault.{StatFault}
use Rattle.image_stat.specs.declared.fault.StatFault.TheVariants.{Device, Plls, Pins, Rams, Memory}

-- the first cause: the devices differ, a PLL or a pin is refused, if pins of every kind are taken or if not, or a RAM is refused
unfoldable pub stat_fault : Bool → Database → Configuration → Option Fault
stat_fault all db image = or_else (first_of (device_faults db image)) (or_else (pins_fault all db image) (rams_fault db image))

-- the reported fault of PLLs is that one; out of memory isn't reported so
abbrev pub IsPllCause : Option Fault → PllFault → Type 0
IsPllCause fault (plls.Pll x y) = fault ≡ Some (Fault.pll x y)
IsPllCause fault (plls.Memory failed) = ⊥

-- the reported fault of a pin is that one; out of memory isn't reported so
abbrev pub IsPinCause : Option Fault → PinFault → Type 0
IsPinCause fault (pins.PinMode x y pio pintype) = fault ≡ Some (Fault.pin_mode x y pio pintype)
IsPinCause fault (pins.Memory failed) = ⊥

-- the reported fault of a RAM is that one; out of memory isn't reported so
abbrev pub IsRamCause : Option Fault → RamFault → Type 0
IsRamCause fault (rams.Cascade x y) = fault ≡ Some (Fault.cascade x y)
IsRamCause fault (rams.Memory failed) = ⊥

-- the reported fault is that one; out of memory may come in place of any answer
abbrev pub IsCause : Option Fault → StatFault → Type 0
IsCause fault Device = fault ≡ Some Fault.other_device
IsCause fault (Plls cause) = IsPllCause fault cause
IsCause fault (Pins cause) = IsPinCause fault cause
IsCause fault (Rams cause) = IsRamCause fault cause
IsCause fault (Memory failed) = Unit {0}
