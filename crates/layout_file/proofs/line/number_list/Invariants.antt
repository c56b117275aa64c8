use Rattle.std.proofs.Common.{◌≡◌, length}
use Rattle.text_lines.specs.declared.words.Separators.TheVariants.{Spaces}
use Rattle.text_lines.specs.Words.{numbers_of, words_of}
use Rattle.layout_file.proofs.ReadNumbers.{after}
use Rattle.layout_file.proofs.line.number_list.Given as goal

abbrev pub invariant-loop-word : goal.invariant-loop-word
invariant-loop-word l = numbers_of (words_of Spaces l.fn.words) ≡ after l.numbers (numbers_of (words_of Spaces l.left))

abbrev pub decreases-loop-word : goal.decreases-loop-word
decreases-loop-word l = length l.left
