use Rattle.std.proofs.Common.{arith}
use Rattle.vlog_engine.specs.Circuits.{kept_gate}
use Rattle.vlog_engine.proofs.Filled.{pushed}
use Rattle.vlog_engine.proofs.building.gates_of.Goals as goal

pub loop-gate-preserved : goal.loop-gate-preserved
loop-gate-preserved c =
    pushed (kept_gate c.args.roots.now) c.args.gates.now c.loop-gate.gate-index _ c.loop-gate.kept.items c.push_gate.new.gates.items
    (omega arith) c.in_ok-push_gate.ensures c.loop-gate.invariant
