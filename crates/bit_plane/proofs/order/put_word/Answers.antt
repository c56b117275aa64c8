use Rattle.std.proofs.Common.{refl, ◌-◌, ◌%◌, arith}
use Rattle.bit_plane.specs.BitList.{word_bits}
use Rattle.bit_plane.proofs.Words.{length-word_bits}
use Rattle.bit_plane.proofs.Packed.{packed-set_at, packed-set_two}
use Rattle.bit_plane.proofs.order.put_word.Goals as goal

pub returns-then-count-here : goal.returns-then-count-here
returns-then-count-here c =
    packed-set_at c.args.words.now c.args.position c.replaced.result (word_bits c.args.count c.args.bits) (omega (arith, c.requires.words)) (omega (arith, c.if-count-here.true, length-word_bits c.args.count c.args.bits)) c.replaced.ensures

pub returns-else-count-here : goal.returns-else-count-here
returns-else-count-here c =
    packed-set_two c.args.words.now c.args.position c.args.count (64 - c.args.position % 64) c.args.bits c.replaced-else-count-here.result c.replaced-else-count-here-2.result (omega (arith, c.requires.words, c.if-count-here.false)) refl (omega (arith, c.if-count-here.false)) c.requires.count c.replaced-else-count-here.ensures c.replaced-else-count-here-2.ensures
