use Rattle.std.proofs.Common.{◌≡◌, ◌-◌, ◌/◌, ◌*◌, length, take, drop, sym, ap, ◌∙◌, arith, length-drop, take-append-drop}
use Rattle.std.proofs.lemmas.List.{take_all}
use Rattle.std.proofs.lemmas.List.Concat.{flat_map-append}
use Rattle.bit_plane.specs.BitList.{byte_bits, bits_of}
use Rattle.bin_stream.specs.inside.Register.{entered_all}
use Rattle.bin_stream.proofs.Powers.{entered_all-append}
use Rattle.bin_stream.proofs.check_value.enter_bytes.Goals as goal

pub returns : goal.returns
returns c =
    let value = c.args.value in
    let bytes = c.args.bytes.now in
    let whole = length bytes / 8 * 8 in
    let rest : take (length bytes - whole) (drop whole bytes) ≡ drop whole bytes = take_all (length bytes - whole) (drop whole bytes) (omega (arith, length-drop whole bytes)) in
    c.enter_pairs.ensures
    ∙ ap (λ last. entered_all c.enter_eights.result (bits_of last)) rest
    ∙ ap (λ value. entered_all value (bits_of (drop whole bytes))) c.enter_eights.ensures
    ∙ sym (entered_all-append value (bits_of (take whole bytes)) (bits_of (drop whole bytes)))
    ∙ ap (entered_all value) (sym (flat_map-append byte_bits (take whole bytes) (drop whole bytes)))
    ∙ ap (λ bytes. entered_all value (bits_of bytes)) (take-append-drop whole bytes)
