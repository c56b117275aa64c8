use Rattle.std.proofs.Common.{◌≡◌}
use Rattle.ice_image.specs.Either.{configuration_of, device_of}
use Rattle.ice_gen.specs.Numbers.{ram_number}
use Rattle.ice_gen.specs.Inside.{FillsWord, word_turn}
use Rattle.ice_gen.proofs.rams.fill_word.Given as goal

abbrev pub invariant-loop-bit : goal.invariant-loop-bit
invariant-loop-bit l =
    (device_of l.image ≡ device_of l.initial.image)
    × FillsWord (device_of l.initial.image) (ram_number (device_of l.initial.image) l.x l.y) l.word l.value (word_turn l.x l.y l.word 0) (word_turn l.x l.y l.word l.bit) (configuration_of l.initial.image) (configuration_of l.image)
