use Rattle.std.proofs.Common.{ap, sym, refl, ◌∙◌, ◌-◌, ◌%◌, arith}
use Rattle.bit_plane.specs.BitList.{word_of}
use Rattle.bit_plane.proofs.Packed.{bits_in_word, word_in_words}
use Rattle.bit_plane.proofs.order.take_word.Goals as goal

pub returns-then-count-here : goal.returns-then-count-here
returns-then-count-here c =
    c.part.ensures ∙ sym (ap word_of (bits_in_word c.args.words.now c.args.position c.args.count (omega (arith, c.requires.words)) (omega (arith, c.if-count-here.true))))

pub returns-else-count-here : goal.returns-else-count-here
returns-else-count-here c =
    word_in_words c.args.words.now c.args.position c.args.count (64 - c.args.position % 64) c.part-else-count-here.result c.part-else-count-here-2.result (omega (arith, c.requires.words, c.if-count-here.false)) refl (omega (arith, c.if-count-here.false)) c.requires.count c.part-else-count-here.ensures c.part-else-count-here-2.ensures
