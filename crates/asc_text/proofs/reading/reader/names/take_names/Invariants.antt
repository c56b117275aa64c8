use Rattle.std.proofs.Common.{◌≡◌, ◌-◌, false}
use Rattle.asc_text.specs.declared.reading.reader.Expected.TheVariants.{Statement as AnyStatement}
use Rattle.asc_text.specs.inside.Reading.{ReaderState, TakesLines}
use Rattle.asc_text.proofs.reading.reader.names.take_names.Given as goal

abbrev pub invariant-loop-count : goal.invariant-loop-count
invariant-loop-count l = (s : ReaderState) → s.expected ≡ AnyStatement → s.in_comment ≡ false → TakesLines s l.text l.count l.left s

abbrev pub decreases-loop-count : goal.decreases-loop-count
decreases-loop-count l = 255 - l.count
