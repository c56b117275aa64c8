use Rattle.std.proofs.Common.{◌≡◌, ◌++◌, map, take}
use Rattle.std.specs.Prelude.{flat_map}
use Rattle.fabric_model.specs.Drivers.{pll_drives}
use Rattle.fabric_wiring.specs.Drives.{drive_of}
use Rattle.fabric_wiring.proofs.pins.append_plls.Given as goal

abbrev pub invariant-loop-port : goal.invariant-loop-port
invariant-loop-port l = map drive_of l.drives.items ≡ map drive_of l.initial.drives.items ++ flat_map (pll_drives l.signals.pins l.signals.plls) (take l.port-index l.plls)
