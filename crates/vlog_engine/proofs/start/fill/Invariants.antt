use Rattle.std.proofs.Common.{◌≡◌, ◌<◌, ℕ, length, take}
use Rattle.vlog_engine.specs.Lanes.{lane_bits}
use Rattle.vlog_engine.proofs.start.fill.Given as goal

abbrev pub invariant-loop-place : goal.invariant-loop-place
invariant-loop-place g l = record {
  lanes : (lane : ℕ) → lane < g.V.Value.LANES → take l.place (lane_bits g.V.Value.at lane l.values) ≡ take l.place l.bits;
  room : length l.values ≡ length l.bits;
}
