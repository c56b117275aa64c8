use Rattle.std.proofs.Common.{◌+◌, ◌*◌}
use Rattle.narrow_words.specs.Narrow.{bit_at}
use Rattle.narrow_words.proofs.Bits.{HasBits}
use Rattle.narrow_words.proofs.narrow.Given as goal

abbrev pub invariant-loop-k : goal.invariant-loop-k
invariant-loop-k l = HasBits l.count (λ d. bit_at l.word (l.share * d + l.high)) l.k l.result
