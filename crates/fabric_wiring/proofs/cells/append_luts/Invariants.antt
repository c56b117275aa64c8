use Rattle.std.proofs.Common.{◌≡◌, ◌++◌, map, take}
use Rattle.std.specs.Prelude.{flat_map, filter, not}
use Rattle.fabric_model.specs.Drivers.{lut_drives}
use Rattle.fabric_wiring.specs.Drives.{drive_of}
use Rattle.fabric_model.specs.declared.cell.LogicCell.{LogicCell}
use Rattle.fabric_wiring.proofs.cells.append_luts.Given as goal

abbrev pub invariant-loop-lc : goal.invariant-loop-lc
invariant-loop-lc l = map drive_of l.drives.items ≡ map drive_of l.initial.drives.items ++ flat_map (lut_drives l.inputs) (filter (λ (lc : LogicCell). not lc.flip) (take l.lc-index l.lcs))
