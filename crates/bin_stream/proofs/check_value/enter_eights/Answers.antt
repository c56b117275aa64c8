use Rattle.std.proofs.Common.{◌≡◌, ◌+◌, ◌-◌, ◌*◌, take, drop, sym, ap, ◌∙◌, arith}
use Rattle.std.proofs.lemmas.List.{take_all}
use Rattle.bit_plane.specs.BitList.{bits_of}
use Rattle.bit_plane.proofs.Streams.{bits_of-take_eight}
use Rattle.bin_stream.specs.inside.Register.{entered_all}
use Rattle.bin_stream.proofs.Powers.{entered_all-append}
use Rattle.bin_stream.proofs.check_value.enter_eights.Goals as goal

pub loop-index-preserved : goal.loop-index-preserved
loop-index-preserved c =
    let i = c.loop-index.index in
    let bytes = c.args.bytes.now in
    let front = bits_of (take (8 * i) bytes) in
    let wide : 8 * i + 8 - 8 * i ≡ 8 = omega arith in
    c.enter_eight-value.ensures
    ∙ ap (λ value. entered_all value (bits_of (take (8 * i + 8 - 8 * i) (drop (8 * i) bytes)))) c.loop-index.invariant
    ∙ ap (λ n. entered_all (entered_all c.args.value front) (bits_of (take n (drop (8 * i) bytes)))) wide
    ∙ sym (entered_all-append c.args.value front (bits_of (take 8 (drop (8 * i) bytes))))
    ∙ ap (entered_all c.args.value) (sym (bits_of-take_eight bytes i))

pub returns : goal.returns
returns c =
    let all : take (8 * c.loop-index.index) c.args.bytes.now ≡ c.args.bytes.now = take_all (8 * c.loop-index.index) c.args.bytes.now (omega (arith, c.requires)) in
    c.loop-index.invariant ∙ ap (λ taken. entered_all c.args.value (bits_of taken)) all
