use Rattle.std.proofs.Common.{ap, arith, sym, ◌∙◌}
use Rattle.std.proofs.lemmas.List.{get_or_past}
use Rattle.vlog_engine.proofs.Lanes.{lane-get, lane-past}
use Rattle.vlog_engine.proofs.reading.cell_at.Goals as goal

pub returns-then-cell-cells-clause-bits : goal.returns-then-cell-cells-clause-bits
returns-then-cell-cells-clause-bits g c lane within =
    ap (λ value. g.V.Value.at value lane) c.index-cells-cell.is ∙ sym (lane-get g.V.Value.at lane c.args.cells.now c.args.cell c.index-cells-cell.result (omega arith))

pub returns-else-cell-cells-clause-is : goal.returns-else-cell-cells-clause-is
returns-else-cell-cells-clause-is g c = sym (get_or_past c.args.cells.now c.args.cell c.every.result (omega arith))

pub returns-else-cell-cells-clause-bits : goal.returns-else-cell-cells-clause-bits
returns-else-cell-cells-clause-bits g c lane within = c.every.ensures lane within ∙ sym (lane-past g.V.Value.at lane c.args.cells.now c.args.cell (omega arith))
