use Rattle.std.proofs.Common.{◌≡◌, ◌<◌, ℕ, false, take, if◌then◌else◌}
use Rattle.std.specs.List.{list_any}
use Rattle.vlog_engine.specs.Lanes.{lane_bits}
use Rattle.vlog_semantics.specs.Steps.{is_at, slots_between}
use Rattle.vlog_engine.proofs.edges.wave_lanes.Given as goal

abbrev pub invariant-loop-edge : goal.invariant-loop-edge
invariant-loop-edge g l =
    (lane : ℕ) → lane < g.V.Value.LANES → g.V.Value.at l.lanes lane
    ≡ (if g.V.Value.at l.active lane
    then list_any (is_at (slots_between l.first l.end (lane_bits g.V.Value.at lane l.earlier) (lane_bits g.V.Value.at lane l.cells))) (take l.edge-index l.edges) else false)
