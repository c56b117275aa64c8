use Rattle.vlog_engine.specs.Lanes.{lane_bits, list_of}
use Rattle.vlog_engine.proofs.Stored.{stored-none}
use Rattle.vlog_engine.specs.Triggers.{step_by}
use Rattle.vlog_engine.proofs.storing.store_all.Goals as goal

pub returns-else-has_ports-clause-stored : goal.returns-else-has_ports-clause-stored
returns-else-has_ports-clause-stored g c lane within =
    stored-none (g.V.Value.at c.args.trigger.now.active lane) c.args.trigger.now.bits (step_by c.args.trigger.now.cause (lane_bits g.V.Value.at lane c.args.trigger.now.earlier.now) (lane_bits g.V.Value.at lane c.args.cells.now)) c.args.trigger.now.group.now (list_of lane c.args.words.now) (list_of lane c.args.memories.now) (lane_bits g.V.Value.at lane c.args.cells.now)
    (c.has_ports.ensures.reads c.if-has_ports.false) (c.has_ports.ensures.writes c.if-has_ports.false)
