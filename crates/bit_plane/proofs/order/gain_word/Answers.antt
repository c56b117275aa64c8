use Rattle.std.proofs.Common.{refl, ◌-◌, ◌%◌, arith}
use Rattle.bit_plane.proofs.Gained.{packed-gained, packed-gained_two}
use Rattle.bit_plane.proofs.order.gain_word.Goals as goal

pub returns-then-count-here : goal.returns-then-count-here
returns-then-count-here c =
    packed-gained c.args.words.now c.args.position c.args.count c.args.bits c.gained.result (omega (arith, c.requires.words)) (omega (arith, c.if-count-here.true)) c.gained.ensures

pub returns-else-count-here : goal.returns-else-count-here
returns-else-count-here c =
    packed-gained_two c.args.words.now c.args.position c.args.count (64 - c.args.position % 64) c.args.bits c.gained-else-count-here.result c.gained-else-count-here-2.result (omega (arith, c.requires.words, c.if-count-here.false)) refl (omega (arith, c.if-count-here.false)) c.requires.count c.gained-else-count-here.ensures c.gained-else-count-here-2.ensures
