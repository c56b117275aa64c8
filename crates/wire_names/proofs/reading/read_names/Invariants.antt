use Rattle.std.proofs.Common.{◌≡◌, ◌+◌, ◌≤◌, drop, length, take}
use Rattle.std.specs.Prelude.{None}
use Rattle.text_lines.specs.Lines.{lines_of}
use Rattle.index_search.specs.Places.{first_below}
use Rattle.wire_names.specs.Faults.{fault_at, named_in}
use Rattle.wire_names.specs.Naming.{Names}
use Rattle.wire_names.proofs.reading.read_names.Given as goal

abbrev pub invariant-loop-line : goal.invariant-loop-line
invariant-loop-line l = record {
  rest : lines_of l.left ≡ drop l.count (lines_of l.fn.text);
  within : l.count ≤ length (lines_of l.fn.text);
  short : l.count + length l.left ≤ length l.fn.text;
  names : Names l.module (named_in (take l.count (lines_of l.fn.text))) l.naming;
  fit : first_below l.count (fault_at l.module (lines_of l.fn.text)) ≡ None;
}

abbrev pub decreases-loop-line : goal.decreases-loop-line
decreases-loop-line l = length l.left
