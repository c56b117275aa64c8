-- The faults of links, PLLs, pins and RAMs, as faults of counting.
use Rattle.fabric_model.specs.declared.fault.LinkFault.{LinkFault}
use Rattle.fabric_model.specs.declared.fault.LinkFault.TheVariants as links
use Rattle.fabric_plls.specs.declared.fault.PllFault.{PllFault}
use Rattle.fabric_plls.specs.declared.fault.PllFault.TheVariants as plls
use Rattle.fabric_parts.specs.declared.io.fault.PinFault.{PinFault}
use Rattle.fabric_parts.specs.declared.io.fault.PinFault.TheVariants as pins
use Rattle.fabric_parts.specs.declared.ram.fault.RamFault.{RamFault}
use Rattle.fabric_parts.specs.declared.ram.fault.RamFault.TheVariants as rams
use Rattle.image_stat.specs.declared.fault.StatFault.{StatFault}
use Rattle.image_stat.specs.declared.fault.StatFault.TheVariants.{Device, Plls, Pins, Rams, Memory}

abbrev pub of_links : LinkFault → StatFault
of_links links.Device = Device
of_links (links.Memory failed) = Memory failed

abbrev pub of_plls : PllFault → StatFault
of_plls (plls.Pll x y) = Plls (plls.Pll x y)
of_plls (plls.Memory failed) = Memory failed

abbrev pub of_pins : PinFault → StatFault
of_pins (pins.PinMode x y pio pintype) = Pins (pins.PinMode x y pio pintype)
of_pins (pins.Memory failed) = Memory failed

abbrev pub of_rams : RamFault → StatFault
of_rams (rams.Cascade x y) = Rams (rams.Cascade x y)
of_rams (rams.Memory failed) = Memory failed
