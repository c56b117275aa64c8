use Rattle.std.proofs.Common.{◌≡◌, false, length}
use Rattle.text_lines.specs.declared.words.Separators.TheVariants.{Spaces}
use Rattle.text_lines.specs.Words.{words_of}
use Rattle.pin_file.specs.Lines.{after_options}
use Rattle.pin_file.proofs.line.after_options.Given as goal

abbrev pub invariant-loop-word : goal.invariant-loop-word
invariant-loop-word l = after_options false (words_of Spaces l.left) ≡ after_options false (words_of Spaces l.fn.words)

abbrev pub decreases-loop-word : goal.decreases-loop-word
decreases-loop-word l = length l.left
