use Rattle.std.proofs.Common.{◌≡◌, ◌<◌, ◌≤◌, ℕ, Bool, List, [], fold, take}
use Rattle.vlog_semantics.specs.Steps.{flip_slot}
use Rattle.vlog_engine.specs.Changes.{change_slot, step_in}
use Rattle.vlog_engine.specs.Flips.{flip_flops}
use Rattle.vlog_engine.specs.Lanes.{lane_bits}
use Rattle.vlog_engine.specs.StepKinds.{slots_of}
use Rattle.vlog_engine.specs.Triggers.{step_by}
use Rattle.vlog_engine.proofs.flips.note_all.Given as goal

abbrev pub invariant-loop-flip : goal.invariant-loop-flip
invariant-loop-flip g l = record {
  count : l.count ≤ l.flip-index;
  noted : (lane : ℕ) (next : List Bool) → lane < g.V.Value.LANES → fold (change_slot g.V.Value.at lane) next (take l.count l.changes)
      ≡ fold (step_in (g.V.Value.at l.trigger.active lane) (flip_slot (slots_of (step_by l.trigger.cause (lane_bits g.V.Value.at lane l.trigger.earlier.now) (lane_bits g.V.Value.at lane l.cells))) (lane_bits g.V.Value.at lane l.cells) [])) next (flip_flops (take l.flip-index l.flips));
}
