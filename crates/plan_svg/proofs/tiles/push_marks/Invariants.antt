use Rattle.std.proofs.Common.{◌≡◌, ◌++◌, flat_map, take}
use Rattle.plan_svg.specs.Tiles.{part_mark}
use Rattle.plan_svg.proofs.tiles.push_marks.Given as goal

abbrev pub invariant-loop-mark : goal.invariant-loop-mark
invariant-loop-mark l =
    l.text.items ≡ l.initial.text.items ++ flat_map (λ mark. part_mark l.side mark.part) (take l.mark-index l.marks)
