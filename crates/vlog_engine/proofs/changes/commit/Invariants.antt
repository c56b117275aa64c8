use Rattle.std.proofs.Common.{◌≡◌, ◌<◌, ℕ, List, fold, take}
use Rattle.vlog_semantics.specs.declared.gates.Gate.{Gate}
use Rattle.vlog_engine.specs.Changes.{change_slot}
use Rattle.vlog_engine.specs.Lanes.{lane_bits}
use Rattle.vlog_engine.specs.Marks.{IsRead, IsTracked}
use Rattle.vlog_engine.proofs.changes.commit.Given as goal

abbrev pub invariant-loop-change : goal.invariant-loop-change
invariant-loop-change g l = record {
  cells : (lane : ℕ) → lane < g.V.Value.LANES → lane_bits g.V.Value.at lane l.cells ≡ fold (change_slot g.V.Value.at lane) (lane_bits g.V.Value.at lane l.initial.cells) (take l.change-index l.changes);
  tracked : (lane : ℕ) (gates : List Gate) → IsRead gates l.readers → IsTracked gates (lane_bits g.V.Value.at lane l.initial.cells) l.initial.marks
      → IsTracked gates (lane_bits g.V.Value.at lane l.cells) l.marks;
}
