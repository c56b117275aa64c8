use Rattle.std.proofs.Common.{◌≡◌, ◌++◌, map, take}
use Rattle.std.specs.Prelude.{flat_map}
use Rattle.fabric_model.specs.Drivers.{second_drives}
use Rattle.fabric_wiring.specs.Drives.{drive_of}
use Rattle.fabric_model.specs.Fabric.{numbered}
use Rattle.fabric_wiring.proofs.registers.append_seconds.Given as goal

abbrev pub invariant-loop-i : goal.invariant-loop-i
invariant-loop-i l = map drive_of l.drives.items ≡ map drive_of l.initial.drives.items ++ flat_map second_drives (numbered (take l.i l.registers))
