use Rattle.std.proofs.Common.{◌≡◌, ◌≢◌, ◌<◌, ◌+◌, ◌*◌, ℕ, List, false, get_or, length}
use Rattle.vlog_semantics.specs.Cells.{part_at}
use Rattle.vlog_semantics.specs.declared.gates.Gate.{Gate}
use Rattle.vlog_engine.specs.Circuits.{ArePartsAt}
use Rattle.vlog_engine.specs.Lanes.{lane_bits}
use Rattle.vlog_engine.specs.Marks.{IsRead, IsTracked}
use Rattle.vlog_engine.proofs.parts.write_words.Given as goal

abbrev pub invariant-loop-place : goal.invariant-loop-place
invariant-loop-place g l = record {
  parts : ArePartsAt l.from l.before (lane_bits g.V.Value.at l.lane l.initial.cells) → (part : ℕ) → part < 16 * length l.words
      → (part < 16 * l.place → get_or (lane_bits g.V.Value.at l.lane l.cells) (l.from + part) false ≡ part_at l.words part)
      × (16 * l.place < part + 1 → get_or (lane_bits g.V.Value.at l.lane l.cells) (l.from + part) false ≡ part_at l.before part);
  same : (cell : ℕ) → (cell < l.from + 16 * length l.words → cell < l.from) → get_or (lane_bits g.V.Value.at l.lane l.cells) cell false ≡ get_or (lane_bits g.V.Value.at l.lane l.initial.cells) cell false;
  others : (other : ℕ) → other < g.V.Value.LANES → other ≢ l.lane → lane_bits g.V.Value.at other l.cells ≡ lane_bits g.V.Value.at other l.initial.cells;
  tracked : (other : ℕ) (gates : List Gate) → IsRead gates l.readers → IsTracked gates (lane_bits g.V.Value.at other l.initial.cells) l.initial.marks
      → IsTracked gates (lane_bits g.V.Value.at other l.cells) l.marks;
}
