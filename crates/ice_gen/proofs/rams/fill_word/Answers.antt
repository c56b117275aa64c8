use Rattle.std.proofs.Common.{◌≡◌, ◌+◌, ◌==◌, ap, sym, ◌∙◌, arith}
use Rattle.std.proofs.lemmas.Nat.Bits.{shr_and_one}
use Rattle.plane_map.specs.declared.tile.WordBit.{WordBit}
use Rattle.ice_image.specs.Either.{configuration_of, device_of}
use Rattle.ice_image.specs.Bits.{OfWord}
use Rattle.ice_gen.specs.Draws.{has_bit}
use Rattle.ice_gen.specs.Inside.{is_word_before, word_turn}
use Rattle.ice_gen.proofs.Filled.{filled-on}
use Rattle.ice_gen.proofs.rams.fill_word.Goals as goal

pub loop-bit-preserved : goal.loop-bit-preserved
loop-bit-preserved c =
    let device = device_of c.args.image.now in
    let x = c.args.x in
    let y = c.args.y in
    let word = c.args.word in
    let bit = c.loop-bit.bit in
    let at : WordBit = record { x = x; y = y; word = word; bit = bit } in
    let more : word_turn x y word bit + 1 ≡ word_turn x y word (bit + 1) = omega arith in (
      c.fill_word_bit.ensures.device ∙ c.loop-bit.invariant.0,
      λ seed drawn filled.
          filled-on is_word_before device (device_of c.loop-bit.image) seed (word_turn x y word bit) (word_turn x y word (bit + 1)) (OfWord at) _ (configuration_of c.loop-bit.image) (configuration_of c.fill_word_bit.new.image) c.loop-bit.invariant.0 more (c.fill_word_bit.ensures.filled seed)
          (ap (λ value. has_bit value bit) (sym drawn) ∙ ap (λ n. n == 1) (sym (shr_and_one c.args.value bit)))
          (c.loop-bit.invariant.1 seed drawn filled),
    )
