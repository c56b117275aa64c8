use Rattle.std.proofs.Common.{ap, arith, sym, ◌∙◌}
use Rattle.vlog_engine.proofs.Lanes.{lane-get}
use Rattle.vlog_engine.proofs.reading.value_at.Goals as goal

pub returns : goal.returns
returns g c lane within =
    ap (λ value. g.V.Value.at value lane) c.index-cells-cell.is ∙ sym (lane-get g.V.Value.at lane c.args.cells.now c.args.cell c.index-cells-cell.result (omega arith))
