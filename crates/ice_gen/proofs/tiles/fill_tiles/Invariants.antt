use Rattle.std.proofs.Common.{◌≡◌, ◌*◌}
use Rattle.ice_image.specs.Either.{configuration_of, device_of}
use Rattle.ice_gen.specs.Inside.{IsFilled, is_tile_before, logic_before, turn}
use Rattle.ice_gen.proofs.tiles.fill_tiles.Given as goal

abbrev pub invariant-loop-y : goal.invariant-loop-y
invariant-loop-y l =
    (device_of l.image ≡ device_of l.initial.image)
    × (l.draws.seed ≡ l.initial.draws.seed)
    × (l.draws.count ≡ 16 * logic_before (device_of l.initial.image) 0 l.y)
    × IsFilled (device_of l.initial.image) l.initial.draws.seed (is_tile_before (turn 0 l.y 0 0)) (configuration_of l.image)
