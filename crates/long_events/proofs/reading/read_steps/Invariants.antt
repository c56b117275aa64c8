use Rattle.std.proofs.Common.{◌≡◌, ◌+◌, ◌≤◌, drop, length, take}
use Rattle.vlog_run.specs.Events.{cut_lines}
use Rattle.vlog_semantics.specs.Slots.{slot_of}
use Rattle.long_events.specs.Lists.{steps_of}
use Rattle.long_events.specs.inside.Reading.{Keeps}
use Rattle.long_events.proofs.Faults.{AreFine}
use Rattle.long_events.proofs.reading.read_steps.Given as goal

abbrev pub invariant-loop-line : goal.invariant-loop-line
invariant-loop-line l = record {
  lines : cut_lines l.left ≡ drop l.count (cut_lines l.fn.bytes);
  within : l.count ≤ length (cut_lines l.fn.bytes);
  short : l.count + length l.left ≤ length l.fn.bytes;
  keeps : Keeps l.reading.steps.items l.reading.level (steps_of (slot_of l.pins) (take l.count (cut_lines l.fn.bytes)));
  fine : AreFine (slot_of l.pins) (cut_lines l.fn.bytes) l.count l.reading.level l.reading.outermost;
}

abbrev pub decreases-loop-line : goal.decreases-loop-line
decreases-loop-line l = length l.left
