use Rattle.std.proofs.Common.{◌≡◌, ◌+◌, ◌*◌, sym, ap, ◌∙◌, arith}
use Rattle.std.proofs.Common.{get_or, length, take, length-take-le}
use Rattle.bit_plane.specs.BitList.{byte_bits, bits_of, placed}
use Rattle.bit_plane.specs.inside.Packed.{packed}
use Rattle.bit_plane.proofs.Bytes.{length-bits_of, bits_of-take}
use Rattle.bit_plane.proofs.Places.{placed-more}
use Rattle.bit_plane.proofs.Packed.{length-packed}
use Rattle.bit_plane.proofs.order.put_each.Goals as goal

pub loop-index-preserved : goal.loop-index-preserved
loop-index-preserved c =
    let i = c.loop-index.index in
    let bytes = c.args.bytes.now in
    let old = packed c.args.words.now in
    let front = bits_of (take i bytes) in
    let front_long : length front ≡ 8 * i = omega (arith, length-bits_of (take i bytes), length-take-le i bytes (omega arith)) in
    c.put_byte.ensures ∙ ap (placed (c.args.position + 8 * i) (byte_bits (get_or bytes i 0))) c.loop-index.invariant ∙ placed-more c.args.position (c.args.position + 8 * i) front (byte_bits (get_or bytes i 0)) old (omega arith) (omega (arith, c.requires.words, length-packed c.args.words.now)) ∙ ap (λ part. placed c.args.position part old) (sym (bits_of-take bytes i (omega arith)))
