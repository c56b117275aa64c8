use Rattle.narrow_words.specs.Narrow.{bit_at, put_bit}
use Rattle.narrow_words.proofs.Bits.{HasBits}
use Rattle.narrow_words.proofs.put.Given as goal

abbrev pub invariant-loop-k : goal.invariant-loop-k
invariant-loop-k l = HasBits 16 (put_bit l.mode (bit_at l.word) l.high (bit_at l.value)) l.k l.result
