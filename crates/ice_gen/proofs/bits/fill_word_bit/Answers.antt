use Rattle.std.proofs.Common.{ℕ, ◌+◌, ◌<◌, ◌∙◌, refl, arith}
use Rattle.std.proofs.lemmas.Bool.{lt-ltb}
use Rattle.ice_image.specs.Either.{configuration_of, device_of}
use Rattle.ice_image.specs.Bits.{OfWord}
use Rattle.ice_gen.specs.Inside.{is_word_before, word_turn}
use Rattle.ice_gen.proofs.Filled.{filled-past, filled-set, word-step}
use Rattle.ice_gen.proofs.bits.fill_word_bit.Goals as goal

pub returns-then-bit-clause-filled : goal.returns-then-bit-clause-filled
returns-then-bit-clause-filled c =
    let device = device_of c.args.image.now in
    let at = c.args.at in
    let t : ℕ = word_turn at.x at.y at.word at.bit in
    let more : t < t + 1 = omega arith in
    λ seed gen filled.
    filled-set device seed (is_word_before t) (is_word_before (t + 1)) (OfWord at) (configuration_of c.args.image.now) (configuration_of c.set_word_bit.new.self) (word-step device at t c.requires refl) (lt-ltb t (t + 1) more) (gen ∙ c.if-bit.true) c.set_word_bit.ensures.bits filled

pub returns-else-bit-clause-filled : goal.returns-else-bit-clause-filled
returns-else-bit-clause-filled c =
    let device = device_of c.args.image.now in
    let at = c.args.at in
    let t : ℕ = word_turn at.x at.y at.word at.bit in
    λ seed gen filled.
    filled-past device seed (is_word_before t) (is_word_before (t + 1)) (OfWord at) (configuration_of c.args.image.now) (word-step device at t c.requires refl) (gen ∙ c.if-bit.false) filled
