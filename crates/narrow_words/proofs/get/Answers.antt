use Rattle.std.proofs.Common.{◌+◌, ◌*◌, ap, ◌∙◌, arith}
use Rattle.narrow_words.specs.Narrow.{bit_at, got_bit}
use Rattle.narrow_words.proofs.Bits.{room, bool_byte-is, bool_byte-small, more_bits, all_bits}
use Rattle.narrow_words.proofs.get.Goals as goal

pub overflow_add-result : goal.overflow_add-result
overflow_add-result c =
    omega (arith, room c.loop-k.k c.loop-k.result c.loop-k-test.true c.loop-k.invariant.small, c.from.ensures, bool_byte-small c.got_bit.result)

pub loop-k-preserved : goal.loop-k-preserved
loop-k-preserved c =
    more_bits 16 (got_bit c.args.mode (bit_at c.args.word) c.args.high) c.loop-k.k c.loop-k.result c.got_bit.result _ (omega arith) c.loop-k.invariant
    c.got_bit.ensures (ap (λ bit. 2 * c.loop-k.result + bit) (c.from.ensures ∙ bool_byte-is c.got_bit.result))

pub returns : goal.returns
returns c = all_bits 16 (got_bit c.args.mode (bit_at c.args.word) c.args.high) c.loop-k.k c.loop-k.result (omega arith) (omega arith) c.loop-k.invariant
