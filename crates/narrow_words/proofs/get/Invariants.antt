use Rattle.narrow_words.specs.Narrow.{bit_at, got_bit}
use Rattle.narrow_words.proofs.Bits.{HasBits}
use Rattle.narrow_words.proofs.get.Given as goal

abbrev pub invariant-loop-k : goal.invariant-loop-k
invariant-loop-k l = HasBits 16 (got_bit l.mode (bit_at l.word) l.high) l.k l.result
