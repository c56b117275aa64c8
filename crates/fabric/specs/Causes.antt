-- Each refusal of a part as a refusal of the whole.
use Rattle.fabric_model.specs.declared.fault.LinkFault.{LinkFault}
use Rattle.fabric_model.specs.declared.fault.LinkFault.TheVariants as links
use Rattle.fabric_plls.specs.declared.fault.PllFault.{PllFault}
use Rattle.fabric_plls.specs.declared.fault.PllFault.TheVariants as plls
use Rattle.fabric_parts.specs.declared.io.fault.PinFault.{PinFault}
use Rattle.fabric_parts.specs.declared.io.fault.PinFault.TheVariants as pins
use Rattle.fabric_parts.specs.declared.ram.fault.RamFault.{RamFault}
use Rattle.fabric_parts.specs.declared.ram.fault.RamFault.TheVariants as rams
use Rattle.fabric_wiring.specs.declared.fault.DriverFault.{DriverFault}
use Rattle.fabric_wiring.specs.declared.fault.DriverFault.TheVariants as drivers
use Rattle.fabric.specs.declared.fault.FabricFault.{FabricFault}
use Rattle.fabric.specs.declared.fault.FabricFault.TheVariants.{Device, Pll, PinMode, Cascade, TwoDrivers, Memory}

abbrev pub of_links : LinkFault → FabricFault
of_links links.Device = Device
of_links (links.Memory failed) = Memory failed

abbrev pub of_plls : PllFault → FabricFault
of_plls (plls.Pll x y) = Pll x y
of_plls (plls.Memory failed) = Memory failed

abbrev pub of_pins : PinFault → FabricFault
of_pins (pins.PinMode x y pio pintype) = PinMode x y pio pintype
of_pins (pins.Memory failed) = Memory failed

abbrev pub of_rams : RamFault → FabricFault
of_rams (rams.Cascade x y) = Cascade x y
of_rams (rams.Memory failed) = Memory failed

abbrev pub of_drivers : DriverFault → FabricFault
of_drivers (drivers.TwoDrivers net first second) = TwoDrivers net first second
of_drivers (drivers.Memory failed) = Memory failed
