use Rattle.std.proofs.Common.{◌≡◌, ◌<◌, ◌≤◌, ◌-◌, ℕ, List, false, length}
use Rattle.vlog_semantics.specs.declared.gates.Gate.{Gate}
use Rattle.vlog_engine.specs.Lanes.{lane_bits}
use Rattle.vlog_engine.specs.Marks.{AreFirst, AreRising, IsRead, IsSwept, IsTracked, StaySources}
use Rattle.vlog_engine.proofs.sweep.run_gates.Given as goal

abbrev pub invariant-loop-place : goal.invariant-loop-place
invariant-loop-place g l = record {
  few : l.place ≤ length l.gates;
  swept : (lane first count : ℕ) (watched : List Gate) → lane < g.V.Value.LANES → AreRising first count l.gates → AreFirst l.gates watched → IsRead watched l.readers → count ≤ length l.initial.cells
      → IsTracked watched (lane_bits g.V.Value.at lane l.initial.cells) l.initial.marks
      → IsSwept (g.V.Value.at l.active lane) l.gates watched l.place (lane_bits g.V.Value.at lane l.cells) l.marks;
  same : (lane first count : ℕ) → AreRising first count l.gates → StaySources first count (lane_bits g.V.Value.at lane l.initial.cells) (lane_bits g.V.Value.at lane l.cells);
  idle : (lane : ℕ) → lane < g.V.Value.LANES → g.V.Value.at l.active lane ≡ false → lane_bits g.V.Value.at lane l.cells ≡ lane_bits g.V.Value.at lane l.initial.cells;
}

abbrev pub decreases-loop-place : goal.decreases-loop-place
decreases-loop-place g l = length l.gates - l.place
