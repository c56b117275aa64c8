use Rattle.std.proofs.Common.{◌≡◌, ◌++◌, map, take}
use Rattle.std.specs.Prelude.{flat_map}
use Rattle.fabric_model.specs.Drivers.{buffer_drives}
use Rattle.fabric_wiring.specs.Drives.{drive_of}
use Rattle.fabric_wiring.specs.Parts.{buffer_of}
use Rattle.fabric_wiring.proofs.every_driver.append_buffers.Given as goal

abbrev pub invariant-loop-buffer : goal.invariant-loop-buffer
invariant-loop-buffer l = map drive_of l.drives.items ≡ map drive_of l.initial.drives.items ++ flat_map buffer_drives (map buffer_of (take l.buffer-index l.buffers))
