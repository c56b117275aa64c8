use Rattle.std.proofs.Common.{◌≡◌, ◌≤◌, ◌+◌, ◌-◌, ◌*◌, sym, ap, ◌∙◌, arith, ◌++◌, length, take, drop, length-take-le}
use Rattle.bit_plane.specs.BitList.{word_bits, bits_of, placed}
use Rattle.bit_plane.specs.inside.Packed.{packed}
use Rattle.bit_plane.proofs.Bytes.{length-bits_of}
use Rattle.bit_plane.proofs.Words.{length-word_bits}
use Rattle.bit_plane.proofs.Places.{placed-more}
use Rattle.bit_plane.proofs.Packed.{length-packed}
use Rattle.bit_plane.proofs.Streams.{bits_of-take_eight}
use Rattle.bit_plane.proofs.order.put_eights.Goals as goal

pub loop-index-preserved : goal.loop-index-preserved
loop-index-preserved c =
    let i = c.loop-index.index in
    let at = c.args.position + 64 * i in
    let bytes = c.args.bytes.now in
    let old = packed c.args.words.now in
    let front = bits_of (take (8 * i) bytes) in
    let eight = word_bits 64 c.word_of_bytes-eight.result in
    let front_long : length front ≡ 64 * i = omega (arith, length-bits_of (take (8 * i) bytes), length-take-le (8 * i) bytes (omega arith)) in
    let room : at + length eight ≤ length old = omega (arith, c.requires.words, length-packed c.args.words.now, length-word_bits 64 c.word_of_bytes-eight.result) in
    let wide : 8 * i + 8 - 8 * i ≡ 8 = omega arith in
    c.put_word.ensures ∙ ap (placed at eight) c.loop-index.invariant ∙ placed-more c.args.position at front eight old (omega (arith, front_long)) room ∙ ap (λ part. placed c.args.position part old) (ap (λ back. front ++ back) (c.word_of_bytes-eight.ensures ∙ ap (λ n. bits_of (take n (drop (8 * i) bytes))) wide) ∙ sym (bits_of-take_eight bytes i))
