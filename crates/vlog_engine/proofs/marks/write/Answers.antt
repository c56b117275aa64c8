use Rattle.std.proofs.Common.{arith}
use Rattle.vlog_engine.proofs.Steps.{lane-tracked, same-cells}
use Rattle.vlog_engine.proofs.marks.write.Goals as goal

pub returns-then-differs-clause-tracked : goal.returns-then-differs-clause-tracked
returns-then-differs-clause-tracked g c lane gates read tracked =
    lane-tracked g.V.Value.at lane gates c.args.readers.now c.args.cell c.args.value c.args.cells.now c.set_cell.new.cells c.args.marks.now c.mark_all.new.marks
    c.readers_at.result.now c.set_cell.ensures c.readers_at.ensures (omega arith) c.mark_all.ensures read tracked

pub returns-else-differs-clause-cells : goal.returns-else-differs-clause-cells
returns-else-differs-clause-cells g c = same-cells c.args.cells.now c.args.cell c.cell_at.result c.args.value c.cell_at.ensures.is (c.differs.ensures c.if-differs.false)
