use Rattle.std.proofs.Common.{◌≡◌, ◌<◌, ◌≤◌, ◌+◌, ◌-◌, ℕ, Bool, List, [], fold, length, take, true}
use Rattle.vlog_semantics.specs.Cells.{cell_at}
use Rattle.vlog_semantics.specs.Steps.{flip_slot}
use Rattle.vlog_semantics.specs.declared.gates.Gate.{Gate}
use Rattle.vlog_engine.specs.Changes.{change_slot, step_in}
use Rattle.vlog_engine.specs.Flips.{AreAt, AreSameBelow, flip_flops, flip_in}
use Rattle.vlog_engine.specs.Lanes.{lane_bits}
use Rattle.vlog_engine.specs.Marks.{IsTracked}
use Rattle.vlog_engine.specs.StepKinds.{slots_of}
use Rattle.vlog_engine.specs.Triggers.{step_by}
use Rattle.vlog_engine.proofs.flips.note_marked.Given as goal

abbrev pub invariant-loop-place : goal.invariant-loop-place
invariant-loop-place g l = record {
  low : l.first ≤ l.place;
  high : l.place ≤ l.first + length l.flips;
  count : l.first + l.count ≤ l.place;
  tracked : (lane : ℕ) (watched : List Gate) → lane < g.V.Value.LANES → AreAt l.first l.flips watched → IsTracked watched (lane_bits g.V.Value.at lane l.cells) l.initial.marks
      → IsTracked watched (lane_bits g.V.Value.at lane l.cells) l.marks;
  noted : (lane : ℕ) (watched : List Gate) (next : List Bool) → lane < g.V.Value.LANES → AreAt l.first l.flips watched
      → (g.V.Value.at l.trigger.active lane ≡ true → IsTracked watched (lane_bits g.V.Value.at lane l.cells) l.initial.marks) → AreSameBelow l.trigger.bits next (lane_bits g.V.Value.at lane l.cells)
      → fold (change_slot g.V.Value.at lane) next (take l.count l.changes)
      ≡ fold (step_in (g.V.Value.at l.trigger.active lane) (flip_slot (slots_of (step_by l.trigger.cause (lane_bits g.V.Value.at lane l.trigger.earlier.now) (lane_bits g.V.Value.at lane l.cells))) (lane_bits g.V.Value.at lane l.cells) [])) next (flip_flops (take (l.place - l.first) l.flips));
  fresh : (lane other : ℕ) (next : List Bool) → l.place ≤ l.first + other → other < length l.flips
      → cell_at (fold (change_slot g.V.Value.at lane) next (take l.count l.changes)) (flip_in l.flips other).target ≡ cell_at next (flip_in l.flips other).target;
}

abbrev pub decreases-loop-place : goal.decreases-loop-place
decreases-loop-place g l = l.first + length l.flips - l.place
