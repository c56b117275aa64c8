use Rattle.std.proofs.Common.{◌≡◌, ◌++◌, map, take}
use Rattle.std.specs.Prelude.{flat_map}
use Rattle.fabric_model.specs.Drivers.{ram_drive}
use Rattle.fabric_wiring.specs.Drives.{drive_of}
use Rattle.fabric_model.specs.Fabric.{numbered}
use Rattle.fabric_wiring.proofs.rams.append_ram.Given as goal

abbrev pub invariant-loop-bit : goal.invariant-loop-bit
invariant-loop-bit l = map drive_of l.drives.items ≡ map drive_of l.initial.drives.items ++ flat_map (ram_drive (l.place, l.ram)) (numbered (take l.bit l.ram.rdata))
