use Rattle.std.proofs.Common.{ap, ◌∙◌}
use Rattle.bit_plane.specs.BitList.{word_bits, placed}
use Rattle.bit_plane.specs.inside.Packed.{packed}
use Rattle.bit_plane.proofs.Turned.{turned-byte}
use Rattle.bit_plane.proofs.order.put_byte.Goals as goal

pub returns : goal.returns
returns c =
    c.put_word.ensures ∙ ap (λ part. placed c.args.position part (packed c.args.words.now)) (ap (word_bits 8) (c.from.ensures ∙ c.turned.ensures) ∙ turned-byte c.args.byte)
