use Rattle.std.proofs.Common.{◌≡◌, ◌<◌, ◌≤◌, ℕ, List, length}
use Rattle.vlog_semantics.specs.declared.gates.Gate.{Gate}
use Rattle.vlog_engine.specs.Lanes.{AreLanes, lane_bits, list_of}
use Rattle.vlog_engine.specs.Marks.{IsRead, IsTracked}
use Rattle.vlog_engine.specs.Passing.{IsStored}
use Rattle.vlog_engine.specs.Triggers.{step_by}
use Rattle.vlog_engine.proofs.storing.store_lanes.Given as goal

abbrev pub invariant-loop-lane : goal.invariant-loop-lane
invariant-loop-lane g l = record {
  done : (other : ℕ) → other < l.lane → IsStored (g.V.Value.at l.trigger.active other) l.trigger.bits (step_by l.trigger.cause (lane_bits g.V.Value.at other l.trigger.earlier.now) (lane_bits g.V.Value.at other l.initial.cells)) l.trigger.group.now (list_of other l.initial.words) (list_of other l.words) (list_of other l.initial.memories) (list_of other l.memories)
      (lane_bits g.V.Value.at other l.initial.cells) (lane_bits g.V.Value.at other l.cells);
  rest_words : (other : ℕ) → l.lane ≤ other → list_of other l.words ≡ list_of other l.initial.words;
  rest_memories : (other : ℕ) → l.lane ≤ other → list_of other l.memories ≡ list_of other l.initial.memories;
  rest_cells : (other : ℕ) → l.lane ≤ other → other < g.V.Value.LANES → lane_bits g.V.Value.at other l.cells ≡ lane_bits g.V.Value.at other l.initial.cells;
  lanes : AreLanes g.V.Value.LANES (length l.initial.next_words) l.words;
  memory_lanes : length l.memories ≡ g.V.Value.LANES;
  cells_room : length l.cells ≡ length l.initial.cells;
  words_room : length l.next_words ≡ length l.initial.next_words;
  writes_room : length l.written ≡ length l.initial.written;
  tracked : (other : ℕ) (gates : List Gate) → IsRead gates l.trigger.readers.now → IsTracked gates (lane_bits g.V.Value.at other l.initial.cells) l.initial.marks
      → IsTracked gates (lane_bits g.V.Value.at other l.cells) l.marks;
}
