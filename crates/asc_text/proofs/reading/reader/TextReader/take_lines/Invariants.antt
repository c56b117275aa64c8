use Rattle.std.proofs.Common.{length}
use Rattle.asc_text.specs.inside.Reading.{state_of}
use Rattle.asc_text.proofs.LinesRead.{HasTaken}
use Rattle.asc_text.proofs.reading.reader.TextReader.take_lines.Given as goal

abbrev pub invariant-loop-left : goal.invariant-loop-left
invariant-loop-left l = HasTaken (state_of l.initial.self) l.before l.text l.count l.left (state_of l.self)

abbrev pub decreases-loop-left : goal.decreases-loop-left
decreases-loop-left l = length l.left
