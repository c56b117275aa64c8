use Rattle.std.proofs.Common.{◌+◌, ◌-◌, ◌*◌, ◌++◌}
use Rattle.plan_marks.proofs.Gathered.{gathered-more, gathered-none}
use Rattle.plan_svg.specs.Margins.{axis_number}
use Rattle.plan_svg.specs.Sheet.{top}
use Rattle.plan_svg.proofs.margins.push_rows.Goals as goal

pub loop-y-init : goal.loop-y-init
loop-y-init c = gathered-none c.args.text.now.items _

pub loop-y-preserved : goal.loop-y-preserved
loop-y-preserved c =
    let sheet = c.args.sheet in
    gathered-more c.args.text.now.items c.loop-y.text.items _ c.loop-y.y
    (λ y. axis_number (sheet.margin - 12) (top sheet y + 24) y ++ axis_number (sheet.margin + 42 * sheet.columns + 10) (top sheet y + 24) y) c.loop-y.invariant c.in_ok-push_row.ensures
