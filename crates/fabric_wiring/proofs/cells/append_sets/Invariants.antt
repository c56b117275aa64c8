use Rattle.std.proofs.Common.{◌≡◌, ◌++◌, map, take}
use Rattle.std.specs.Prelude.{flat_map}
use Rattle.fabric_model.specs.Drivers.{set_drives}
use Rattle.fabric_wiring.specs.Drives.{drive_of}
use Rattle.fabric_wiring.proofs.cells.append_sets.Given as goal

abbrev pub invariant-loop-set : goal.invariant-loop-set
invariant-loop-set l = map drive_of l.drives.items ≡ map drive_of l.initial.drives.items ++ flat_map set_drives (take l.set-index l.sets)
