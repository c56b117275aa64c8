use Rattle.plane_map.proofs.RowRuns.{row-only, row-there}
use Rattle.plane_map.proofs.runs.tile_row_on.Goals as goal

pub returns-clause-only : goal.returns-clause-only
returns-clause-only c =
    let y = rw c.device.ensures.device at c.y_at-y.ensures in
    row-only c.args.layout.now c.device.ensures.layout c.args.bank c.args.py c.quarter.result c.y_at-y.result c.row_at.result c.quarter.ensures.in_grid c.quarter.ensures.value y.in_grid y.half y.distance c.row_at.ensures.in_tile c.row_at.ensures.value

pub returns-clause-there : goal.returns-clause-there
returns-clause-there c =
    let y = rw c.device.ensures.device at c.y_at-y.ensures in
    row-there c.args.layout.now c.device.ensures.layout c.args.bank c.args.py c.quarter.result c.y_at-y.result c.row_at.result c.quarter.ensures.in_grid c.quarter.ensures.value y.in_grid y.half y.distance c.row_at.ensures.in_tile c.row_at.ensures.value
