use Rattle.std.proofs.Common.{rules, arith}
use Rattle.narrow_words.specs.Narrow.{bit_at, put_bit}
use Rattle.narrow_words.proofs.Bits.{more_bits, all_bits}
use Rattle.narrow_words.proofs.put.Goals as goal

pub loop-k-preserved : goal.loop-k-preserved
loop-k-preserved c =
    more_bits 16 (put_bit c.args.mode (bit_at c.args.word) c.args.high (bit_at c.args.value)) c.loop-k.k c.loop-k.result c.put_bit.result _ (omega arith) c.loop-k.invariant
    c.put_bit.ensures (search rules)

pub returns : goal.returns
returns c =
    all_bits 16 (put_bit c.args.mode (bit_at c.args.word) c.args.high (bit_at c.args.value)) c.loop-k.k c.loop-k.result (omega arith) (omega arith) c.loop-k.invariant
