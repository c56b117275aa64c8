use Rattle.std.proofs.Common.{◌≡◌, length}
use Rattle.layout_file.specs.Lines.{without_blanks}
use Rattle.layout_file.proofs.line.without_blanks.Given as goal

abbrev pub invariant-loop-left : goal.invariant-loop-left
invariant-loop-left l = without_blanks l.left ≡ without_blanks l.fn.line

abbrev pub decreases-loop-left : goal.decreases-loop-left
decreases-loop-left l = length l.left
