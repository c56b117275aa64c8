use Rattle.std.proofs.Common.{◌≡◌, flat_map, take}
use Rattle.vlog_engine.specs.Circuits.{kept_gate}
use Rattle.vlog_engine.proofs.building.gates_of.Given as goal

abbrev pub invariant-loop-gate : goal.invariant-loop-gate
invariant-loop-gate l = l.kept.items ≡ flat_map (kept_gate l.roots) (take l.gate-index l.gates)
