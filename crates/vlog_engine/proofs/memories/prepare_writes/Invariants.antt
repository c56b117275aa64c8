use Rattle.std.proofs.Common.{◌≡◌, [], length, take}
use Rattle.std.specs.Prelude.{map}
use Rattle.vlog_semantics.specs.Steps.{written_by}
use Rattle.vlog_engine.specs.Lanes.{lane_bits}
use Rattle.vlog_engine.specs.Triggers.{step_by}
use Rattle.vlog_engine.specs.StepKinds.{slots_of}
use Rattle.vlog_engine.proofs.memories.prepare_writes.Given as goal

abbrev pub invariant-loop-place : goal.invariant-loop-place
invariant-loop-place g l = length l.initial.written ≡ length l.writes → take l.place l.written ≡ map (written_by (slots_of (step_by l.trigger.cause (lane_bits g.V.Value.at l.lane l.trigger.earlier.now) (lane_bits g.V.Value.at l.lane l.cells))) (lane_bits g.V.Value.at l.lane l.cells) [] l.memories) (take l.place l.writes)
