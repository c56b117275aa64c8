use Rattle.std.proofs.Common.{◌≡◌, ◌+◌, ◌≤◌, drop, flat_map, length, take}
use Rattle.vlog_run.specs.Events.{cut_lines, line_event}
use Rattle.vlog_semantics.specs.Slots.{slot_of}
use Rattle.vlog_run.proofs.EventLines.{AreFine}
use Rattle.vlog_run.proofs.event_lines.read_lines.Given as goal

abbrev pub invariant-loop-line : goal.invariant-loop-line
invariant-loop-line l = record {
  lines : cut_lines l.left ≡ drop l.count (cut_lines l.fn.bytes);
  within : l.count ≤ length (cut_lines l.fn.bytes);
  short : l.count + length l.left ≤ length l.fn.bytes;
  read : l.events.items ≡ flat_map (line_event (slot_of l.pins)) (take l.count (cut_lines l.fn.bytes));
  fine : AreFine (slot_of l.pins) (cut_lines l.fn.bytes) l.count;
}

abbrev pub decreases-loop-line : goal.decreases-loop-line
decreases-loop-line l = length l.left
