use Rattle.std.proofs.Common.{◌≡◌}
use Rattle.ice_image.specs.Either.{configuration_of, device_of}
use Rattle.ice_gen.specs.Inside.{Fills, turn}
use Rattle.ice_gen.proofs.pins.fill_pins.Given as goal

abbrev pub invariant-loop-row : goal.invariant-loop-row
invariant-loop-row l =
    (device_of l.image ≡ device_of l.initial.image)
    × Fills (device_of l.initial.image) (turn l.x l.y 0 0) (turn l.x l.y l.row 0) (configuration_of l.initial.image) (configuration_of l.image)
