use Rattle.std.proofs.Common.{length}
use Rattle.chipdb_reader.proofs.Feeding.{Going}
use Rattle.chipdb_reader.proofs.line_reader.LineReaderLineTaker.take_lines.Given as goal

abbrev pub invariant-loop-left : goal.invariant-loop-left
invariant-loop-left l = Going l.fn.text l.left l.fn.self l.self

abbrev pub decreases-loop-left : goal.decreases-loop-left
decreases-loop-left l = length l.left
