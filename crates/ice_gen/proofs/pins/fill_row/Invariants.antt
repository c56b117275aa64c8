use Rattle.std.proofs.Common.{◌≡◌}
use Rattle.ice_image.specs.Either.{configuration_of, device_of}
use Rattle.ice_gen.specs.Inside.{Fills, turn}
use Rattle.ice_gen.proofs.pins.fill_row.Given as goal

abbrev pub invariant-loop-col : goal.invariant-loop-col
invariant-loop-col l =
    (device_of l.image ≡ device_of l.initial.image)
    × Fills (device_of l.initial.image) (turn l.x l.y l.row 0) (turn l.x l.y l.row l.col) (configuration_of l.initial.image) (configuration_of l.image)
