use Rattle.std.proofs.Common.{◌≡◌, ◌+◌, ◌*◌}
use Rattle.ice_image.specs.Either.{configuration_of, device_of}
use Rattle.ice_gen.specs.Inside.{IsFilled, is_tile_before, turn}
use Rattle.ice_gen.proofs.cells.fill_cells.Given as goal

abbrev pub invariant-loop-i : goal.invariant-loop-i
invariant-loop-i l =
    (device_of l.image ≡ device_of l.initial.image)
    × (l.draws.seed ≡ l.initial.draws.seed)
    × (l.draws.count ≡ l.initial.draws.count + 2 * l.i)
    × IsFilled (device_of l.initial.image) l.initial.draws.seed (is_tile_before (turn l.x l.y (2 * l.i) 0)) (configuration_of l.image)
