use Rattle.std.proofs.Common.{rules, arith}
use Rattle.narrow_words.proofs.Bits.{more_bits}
use Rattle.narrow_words.proofs.narrow.Goals as goal

pub loop-k-preserved : goal.loop-k-preserved
loop-k-preserved c =
    more_bits _ _ c.loop-k.k c.loop-k.result c.bit_at.result _ (omega arith) c.loop-k.invariant
    c.bit_at.ensures (search rules)
