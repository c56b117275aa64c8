use Rattle.std.proofs.Common.{◌≡◌, ◌++◌, map, take}
use Rattle.floor_plan.specs.Marks.{cell_mark}
use Rattle.floor_plan.proofs.marks.push_cells.Given as goal

abbrev pub invariant-loop-lc : goal.invariant-loop-lc
invariant-loop-lc l =
    l.marks.items ≡ l.initial.marks.items ++ map cell_mark (take l.lc-index l.cells)
