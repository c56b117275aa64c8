use Rattle.std.proofs.Common.{◌≡◌, ◌++◌, drop}
use Rattle.index_search.specs.Places.{gathered_below}
use Rattle.text_lines.specs.Lines.{lines_of, whole_lines_of, line_at}
use Rattle.bram_replace.specs.Replaced.{memory_line_with}
use Rattle.bram_replace.specs.Rams.{listed}
use Rattle.bram_replace.proofs.ram.append_lines.Given as goal

abbrev pub invariant-loop-row : goal.invariant-loop-row
invariant-loop-row l = record {
  written : l.bytes.items ≡ l.initial.bytes.items ++ gathered_below l.row (λ row. memory_line_with (listed l.old) (listed l.new) row (line_at (whole_lines_of l.text) row));
  lines : lines_of l.left ≡ drop l.row (lines_of l.text);
  wholes : whole_lines_of l.left ≡ drop l.row (whole_lines_of l.text);
}
