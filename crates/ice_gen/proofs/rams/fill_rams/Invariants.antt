use Rattle.std.proofs.Common.{◌≡◌, ◌+◌, ◌*◌}
use Rattle.ice_image.specs.Either.{configuration_of, device_of}
use Rattle.ice_gen.specs.Numbers.{cells}
use Rattle.ice_gen.specs.Inside.{IsFilled, is_word_before, rams_before, word_turn}
use Rattle.ice_gen.proofs.rams.fill_rams.Given as goal

abbrev pub invariant-loop-y : goal.invariant-loop-y
invariant-loop-y l =
    (device_of l.image ≡ device_of l.initial.image)
    × (l.draws.seed ≡ l.initial.draws.seed)
    × (l.draws.count ≡ 2 * cells (device_of l.initial.image) + 256 * rams_before (device_of l.initial.image) 0 l.y)
    × IsFilled (device_of l.initial.image) l.initial.draws.seed (is_word_before (word_turn 0 l.y 0 0)) (configuration_of l.image)
