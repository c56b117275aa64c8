use Rattle.std.proofs.Common.{◌≡◌, ◌++◌, map, take}
use Rattle.std.specs.Prelude.{flat_map}
use Rattle.fabric_model.specs.Drivers.{lout_drives}
use Rattle.fabric_wiring.specs.Drives.{drive_of}
use Rattle.fabric_wiring.proofs.cells.append_louts.Given as goal

abbrev pub invariant-loop-lc : goal.invariant-loop-lc
invariant-loop-lc l = map drive_of l.drives.items ≡ map drive_of l.initial.drives.items ++ flat_map (lout_drives l.inputs) (take l.lc-index l.lcs)
