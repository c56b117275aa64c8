use Rattle.std.proofs.Common.{length}
use Rattle.pin_file.proofs.PackageSteps.{Going}
use Rattle.pin_file.proofs.pin_lines.PinLinesLineTaker.take_lines.Given as goal

abbrev pub invariant-loop-line : goal.invariant-loop-line
invariant-loop-line l = Going l.fn.text l.left l.fn.self l.self

abbrev pub decreases-loop-line : goal.decreases-loop-line
decreases-loop-line l = length l.left
