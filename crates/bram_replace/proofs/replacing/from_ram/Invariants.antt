use Rattle.std.proofs.Common.{ℕ, List, length}
use Rattle.text_lines.specs.Lines.{lines_of}
use Rattle.bram_replace.specs.Passed.{Passes}
use Rattle.bram_replace.proofs.replacing.from_ram.Given as goal

abbrev pub invariant-loop-line : goal.invariant-loop-line
invariant-loop-line l = (passed : List ℕ) × Passes l.text passed l.left

abbrev pub decreases-loop-line : goal.decreases-loop-line
decreases-loop-line l = length (lines_of l.left)
