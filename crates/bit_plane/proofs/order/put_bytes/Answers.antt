use Rattle.std.proofs.Common.{◌≡◌, ◌+◌, ◌-◌, ◌*◌, ◌/◌, sym, ap, ◌∙◌, arith, length, take, drop, length-take-le, length-drop, take-append-drop, take_all}
use Rattle.std.proofs.lemmas.Grind.{flat_map-append}
use Rattle.bit_plane.specs.BitList.{byte_bits, bits_of, placed}
use Rattle.bit_plane.specs.inside.Packed.{packed}
use Rattle.bit_plane.proofs.Bytes.{length-bits_of}
use Rattle.bit_plane.proofs.Places.{placed-more}
use Rattle.bit_plane.proofs.Packed.{length-packed}
use Rattle.bit_plane.proofs.order.put_bytes.Goals as goal

pub returns : goal.returns
returns c =
    let bytes = c.args.bytes.now in
    let whole = length bytes / 8 * 8 in
    let at = c.args.position + 8 * whole in
    let old = packed c.args.words.now in
    let front = bits_of (take whole bytes) in
    let back = bits_of (drop whole bytes) in
    let front_long : length front ≡ 8 * whole = omega (arith, length-bits_of (take whole bytes), length-take-le whole bytes (omega arith)) in
    let back_long : length back ≡ 8 * length bytes - 8 * whole = omega (arith, length-bits_of (drop whole bytes), length-drop whole bytes) in
    let rest : take (length bytes - whole) (drop whole bytes) ≡ drop whole bytes = take_all (length bytes - whole) (drop whole bytes) (omega (arith, length-drop whole bytes)) in
    c.put_each.ensures ∙ ap (λ rest. placed at (bits_of rest) (packed c.put_eights.new.words)) rest ∙ ap (placed at back) c.put_eights.ensures ∙ placed-more c.args.position at front back old (omega (arith, front_long)) (omega (arith, back_long, c.requires.words, length-packed c.args.words.now)) ∙ ap (λ part. placed c.args.position part old) (sym (flat_map-append byte_bits (take whole bytes) (drop whole bytes)) ∙ ap bits_of (take-append-drop whole bytes))
