use Rattle.std.proofs.Common.{length}
use Rattle.text_lines.specs.Lines.{lines_of}
use Rattle.bram_replace.specs.ReadModes.{modes_in}
use Rattle.bram_replace.proofs.Steps.{Progress}
use Rattle.bram_replace.proofs.replacing.replace_rams.Given as goal

abbrev pub invariant-loop-line : goal.invariant-loop-line
invariant-loop-line l = Progress l.columns.file.now l.to (modes_in l.modes (lines_of l.asc)) l.asc l.left l.bytes.items l.found.items

abbrev pub decreases-loop-line : goal.decreases-loop-line
decreases-loop-line l = length (lines_of l.left)
