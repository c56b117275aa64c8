use Rattle.std.proofs.Common.{◌≡◌, length}
use Rattle.std.specs.Prelude.{is_some}
use Rattle.chipdb_lines.specs.Words.{bits_of, words_in}
use Rattle.chipdb_lines.proofs.bits.cause_before.Given as goal

abbrev pub invariant-loop-word : goal.invariant-loop-word
invariant-loop-word l = is_some (bits_of (words_in l.fn.words)) ≡ is_some (bits_of (words_in l.left))

abbrev pub decreases-loop-word : goal.decreases-loop-word
decreases-loop-word l = length l.left
