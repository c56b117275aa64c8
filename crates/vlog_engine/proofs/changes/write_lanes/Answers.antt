use Rattle.std.proofs.Common.{ap, cond, ◌∙◌}
use Rattle.vlog_engine.specs.Lanes.{lane_bits}
use Rattle.vlog_engine.proofs.Lanes.{lane-change}
use Rattle.vlog_engine.proofs.changes.write_lanes.Goals as goal

pub returns-clause-cells : goal.returns-clause-cells
returns-clause-cells g c lane within =
    let at = g.V.Value.at in
    let change = c.args.change in
    ap (lane_bits at lane) c.write.ensures.cells
    ∙ lane-change at lane c.args.cells.now change.cell c.select-value.result (at change.lanes lane) (at change.value lane)
    (c.select-value.ensures lane within ∙ ap (cond (at change.lanes lane) (at change.value lane)) (c.cell_at.ensures.bits lane within))
