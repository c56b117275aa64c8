use Rattle.std.proofs.Common.{arith}
use Rattle.vlog_engine.specs.Marks.{gate_at}
use Rattle.vlog_engine.proofs.Lanes.{lane-length}
use Rattle.vlog_engine.proofs.Steps.{gate-idle, gate-same, gate-step}
use Rattle.vlog_engine.proofs.sweep.run_gate.Goals as goal

pub returns-clause-swept : goal.returns-clause-swept
returns-clause-swept g c lane first count watched within rising among read room swept =
    let at = g.V.Value.at in
    gate-step at lane (at c.args.active lane) c.differs.result c.gate_value-value.result c.select-kept.result c.cell_at.result first count c.args.gates.now watched c.args.place
    c.args.cells.now c.write.new.cells c.args.marks.now c.write.new.marks c.leave_mark.new.marks rising among (omega (arith, room, lane-length at lane c.args.cells.now)) (omega arith)
    (c.gate_value-value.ensures lane within) (c.select-kept.ensures lane within) c.differs.ensures c.write.ensures.cells (omega arith) c.leave_mark.ensures.own c.leave_mark.ensures.others
    swept (c.write.ensures.tracked lane watched read swept.tracked)

pub returns-clause-same : goal.returns-clause-same
returns-clause-same g c lane first count rising cell source =
    gate-same g.V.Value.at lane first count c.args.gates.now c.args.place c.select-kept.result c.args.cells.now c.write.new.cells rising (omega arith) c.write.ensures.cells cell source

pub returns-clause-idle : goal.returns-clause-idle
returns-clause-idle g c lane within off =
    gate-idle g.V.Value.at lane (g.V.Value.at c.args.active lane) c.gate_value-value.result c.select-kept.result c.cell_at.result (gate_at c.args.gates.now c.args.place).slot
    c.args.cells.now c.write.new.cells (c.select-kept.ensures lane within) (c.cell_at.ensures.bits lane within) c.write.ensures.cells off
