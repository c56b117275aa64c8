use Rattle.std.proofs.Common.{◌≡◌, ◌++◌, map, take}
use Rattle.floor_plan.specs.Marks.{lower_mark}
use Rattle.floor_plan.proofs.marks.push_lower.Given as goal

abbrev pub invariant-loop-ram : goal.invariant-loop-ram
invariant-loop-ram l =
    l.marks.items ≡ l.initial.marks.items ++ map lower_mark (take l.ram-index l.rams)
