use Rattle.std.proofs.Common.{◌≡◌, ◌++◌, flat_map, take}
use Rattle.plan_svg.specs.Hover.{mark_line}
use Rattle.plan_svg.specs.Names.{names_in}
use Rattle.plan_svg.proofs.hover.push_lines.Given as goal

abbrev pub invariant-loop-mark : goal.invariant-loop-mark
invariant-loop-mark l =
    l.text.items ≡ l.initial.text.items ++ flat_map (mark_line (names_in l.names)) (take l.mark-index l.marks)
