use Rattle.std.proofs.Common.{◌≡◌, ◌+◌}
use Rattle.ice_image.specs.Either.{configuration_of, device_of}
use Rattle.ice_gen.specs.Inside.{IsFilled, is_word_before, word_turn}
use Rattle.ice_gen.proofs.rams.fill_ram.Given as goal

abbrev pub invariant-loop-word : goal.invariant-loop-word
invariant-loop-word l =
    (device_of l.image ≡ device_of l.initial.image)
    × (l.draws.seed ≡ l.initial.draws.seed)
    × (l.draws.count ≡ l.initial.draws.count + l.word)
    × IsFilled (device_of l.initial.image) l.initial.draws.seed (is_word_before (word_turn l.x l.y l.word 0)) (configuration_of l.image)
