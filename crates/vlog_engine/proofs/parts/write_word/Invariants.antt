use Rattle.std.proofs.Common.{◌≡◌, ◌≢◌, ◌<◌, ℕ, List}
use Rattle.vlog_semantics.specs.declared.gates.Gate.{Gate}
use Rattle.vlog_engine.specs.Changes.{with_word}
use Rattle.vlog_engine.specs.Lanes.{lane_bits}
use Rattle.vlog_engine.specs.Marks.{IsRead, IsTracked}
use Rattle.vlog_engine.proofs.parts.write_word.Given as goal

abbrev pub invariant-loop-k : goal.invariant-loop-k
invariant-loop-k g l = record {
  own : lane_bits g.V.Value.at l.lane l.cells ≡ with_word (lane_bits g.V.Value.at l.lane l.initial.cells) l.from l.word l.k;
  others : (other : ℕ) → other < g.V.Value.LANES → other ≢ l.lane → lane_bits g.V.Value.at other l.cells ≡ lane_bits g.V.Value.at other l.initial.cells;
  tracked : (other : ℕ) (gates : List Gate) → IsRead gates l.readers → IsTracked gates (lane_bits g.V.Value.at other l.initial.cells) l.initial.marks
      → IsTracked gates (lane_bits g.V.Value.at other l.cells) l.marks;
}
