use Rattle.std.proofs.Common.{◌≡◌, ◌++◌, length}
use Rattle.text_lines.specs.Lines.{lines_of}
use Rattle.asc_text.specs.inside.Symbols.{symbols_in}
use Rattle.asc_text.proofs.reading.symbols.symbols_in.Given as goal

abbrev pub invariant-loop-line : goal.invariant-loop-line
invariant-loop-line l = symbols_in (lines_of l.text) ≡ l.symbols.items ++ symbols_in (lines_of l.left)

abbrev pub decreases-loop-line : goal.decreases-loop-line
decreases-loop-line l = length l.left
