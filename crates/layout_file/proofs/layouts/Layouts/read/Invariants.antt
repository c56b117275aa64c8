use Rattle.std.proofs.Common.{◌≡◌, ◌+◌, ◌≤◌, length, drop}
use Rattle.std.specs.Prelude.{None}
use Rattle.text_lines.specs.Lines.{lines_of}
use Rattle.index_search.specs.Places.{first_below}
use Rattle.layout_file.specs.Faults.{fault_at}
use Rattle.layout_file.proofs.LineSteps.{reader_before}
use Rattle.layout_file.proofs.layouts.Layouts.read.Given as goal

abbrev pub invariant-loop-line : goal.invariant-loop-line
invariant-loop-line l = record {
  rest : lines_of l.left ≡ drop l.count (lines_of l.fn.bytes);
  within : l.count ≤ length (lines_of l.fn.bytes);
  short : l.count + length l.left ≤ length l.fn.bytes;
  read : l.reader ≡ reader_before (lines_of l.fn.bytes) l.count;
  fit : first_below l.count (fault_at (lines_of l.fn.bytes)) ≡ None;
}

abbrev pub decreases-loop-line : goal.decreases-loop-line
decreases-loop-line l = length l.left
