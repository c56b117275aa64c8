use Rattle.std.proofs.Common.{◌≡◌, ◌<◌, ℕ, length, take}
use Rattle.vlog_engine.specs.Circuits.{shown_by}
use Rattle.vlog_engine.specs.Lanes.{lane_bits}
use Rattle.vlog_engine.proofs.parts.show_cells.Given as goal

abbrev pub invariant-loop-place : goal.invariant-loop-place
invariant-loop-place g l = length l.initial.shown ≡ length l.roots → (lane : ℕ) → lane < g.V.Value.LANES
    → take l.place (lane_bits g.V.Value.at lane l.shown) ≡ shown_by (take l.place l.roots) (lane_bits g.V.Value.at lane l.cells)
