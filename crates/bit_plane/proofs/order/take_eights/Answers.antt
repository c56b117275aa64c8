use Rattle.std.proofs.Common.{◌≡◌, ◌≤◌, ◌+◌, ◌*◌, refl, sym, ap, ap₂, ◌∙◌, arith, List, ℕ, ◌++◌, length, take, drop, drop-drop, length-drop}
use Rattle.bit_plane.specs.BitList.{bytes_of}
use Rattle.bit_plane.specs.inside.Packed.{packed}
use Rattle.bit_plane.proofs.Bytes.{length-bytes_of}
use Rattle.bit_plane.proofs.Packed.{length-packed}
use Rattle.bit_plane.proofs.Streams.{bytes_of-add, eight-of_word, take-to_placed}
use Rattle.bit_plane.proofs.order.take_eights.Goals as goal

pub loop-index-init : goal.loop-index-init
unfolding bytes_of
loop-index-init c = refl

pub loop-index-preserved : goal.loop-index-preserved
loop-index-preserved c =
    let i = c.loop-index.index in
    let bits = drop c.args.position (packed c.args.words.now) in
    let rest = drop (c.args.position + 64 * i) (packed c.args.words.now) in
    let eight = c.bytes_of_word.result in
    let long : 64 ≤ length rest = omega (arith, c.requires.words, length-packed c.args.words.now, length-drop (c.args.position + 64 * i) (packed c.args.words.now)) in
    let read : eight ≡ bytes_of 8 rest = c.bytes_of_word.ensures ∙ eight-of_word rest c.take_word-eight.result long c.take_word-eight.ensures in
    let eight_long : length eight ≡ 8 = ap length read ∙ length-bytes_of 8 rest in
    let more : 8 * (i + 1) ≡ 8 * i + 8 = omega arith in
    let place : 8 * (8 * i) ≡ 64 * i = omega arith in
    let following : rest ≡ drop (8 * (8 * i)) bits = sym (ap (λ n. drop n bits) place ∙ drop-drop (64 * i) c.args.position (packed c.args.words.now)) in
    ap (take (8 * (i + 1))) c.set_eight.ensures ∙ take-to_placed (8 * i) (8 * (i + 1)) eight c.loop-index.bytes (omega arith) (omega (arith, eight_long)) ∙ ap₂ (λ (front back : List ℕ). front ++ back) c.loop-index.invariant (read ∙ ap (bytes_of 8) following) ∙ sym (ap (λ n. bytes_of n bits) more ∙ bytes_of-add (8 * i) 8 bits)
