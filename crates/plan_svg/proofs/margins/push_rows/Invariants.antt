use Rattle.std.proofs.Common.{◌≡◌, ◌+◌, ◌-◌, ◌*◌, ◌++◌}
use Rattle.index_search.specs.Places.{gathered_below}
use Rattle.plan_svg.specs.Margins.{axis_number}
use Rattle.plan_svg.specs.Sheet.{top}
use Rattle.plan_svg.proofs.margins.push_rows.Given as goal

abbrev pub invariant-loop-y : goal.invariant-loop-y
invariant-loop-y l =
    l.text.items ≡ l.initial.text.items ++ gathered_below l.y (λ y. axis_number (l.sheet.margin - 12) (top l.sheet y + 24) y ++ axis_number (l.sheet.margin + 42 * l.sheet.columns + 10) (top l.sheet y + 24) y)
