use Rattle.std.proofs.Common.{◌≡◌, [], fold, take}
use Rattle.vlog_semantics.specs.Steps.{read_slot}
use Rattle.vlog_engine.specs.Lanes.{lane_bits}
use Rattle.vlog_engine.specs.Triggers.{step_by}
use Rattle.vlog_engine.specs.StepKinds.{slots_of}
use Rattle.vlog_engine.proofs.memories.run_reads.Given as goal

abbrev pub invariant-loop-read : goal.invariant-loop-read
invariant-loop-read g l = l.next ≡ fold (read_slot (slots_of (step_by l.trigger.cause (lane_bits g.V.Value.at l.lane l.trigger.earlier.now) (lane_bits g.V.Value.at l.lane l.cells))) (lane_bits g.V.Value.at l.lane l.cells) [] l.memories) l.initial.next (take l.read-index l.reads)
