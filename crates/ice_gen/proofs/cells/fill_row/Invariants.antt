use Rattle.std.proofs.Common.{◌≡◌}
use Rattle.ice_image.specs.Either.{configuration_of, device_of}
use Rattle.ice_gen.specs.Inside.{FillsRow, turn}
use Rattle.ice_gen.proofs.cells.fill_row.Given as goal

abbrev pub invariant-loop-col : goal.invariant-loop-col
invariant-loop-col l =
    (device_of l.image ≡ device_of l.initial.image)
    × FillsRow (device_of l.initial.image) l.j l.lut l.choice (turn l.x l.y l.row 0) (turn l.x l.y l.row l.col) (configuration_of l.initial.image) (configuration_of l.image)
