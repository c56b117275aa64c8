use Rattle.std.proofs.Common.{◌≡◌, ◌+◌, ◌*◌, ◌++◌}
use Rattle.index_search.specs.Places.{gathered_below}
use Rattle.plan_svg.specs.Margins.{axis_number}
use Rattle.plan_svg.specs.Sheet.{left}
use Rattle.plan_svg.proofs.margins.push_columns.Given as goal

abbrev pub invariant-loop-x : goal.invariant-loop-x
invariant-loop-x l =
    l.text.items ≡ l.initial.text.items ++ gathered_below l.x (λ x. axis_number (left l.sheet x + 20) (52 + l.sheet.margin) x ++ axis_number (left l.sheet x + 20) (72 + l.sheet.margin + 42 * l.sheet.rows) x)
