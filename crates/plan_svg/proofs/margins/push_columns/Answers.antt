use Rattle.std.proofs.Common.{◌+◌, ◌*◌, ◌++◌}
use Rattle.plan_marks.proofs.Gathered.{gathered-more, gathered-none}
use Rattle.plan_svg.specs.Margins.{axis_number}
use Rattle.plan_svg.specs.Sheet.{left}
use Rattle.plan_svg.proofs.margins.push_columns.Goals as goal

pub loop-x-init : goal.loop-x-init
loop-x-init c = gathered-none c.args.text.now.items _

pub loop-x-preserved : goal.loop-x-preserved
loop-x-preserved c =
    let sheet = c.args.sheet in
    gathered-more c.args.text.now.items c.loop-x.text.items _ c.loop-x.x
    (λ x. axis_number (left sheet x + 20) (52 + sheet.margin) x ++ axis_number (left sheet x + 20) (72 + sheet.margin + 42 * sheet.rows) x) c.loop-x.invariant c.in_ok-push_column.ensures
