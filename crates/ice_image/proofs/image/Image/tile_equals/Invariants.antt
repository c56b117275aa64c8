use Rattle.plane_map.specs.declared.tile.RowCol.{RowCol}
use Rattle.ice_image.specs.Bits.{tile_bit_of}
use Rattle.ice_image.proofs.Listed.{AgreeBelow}
use Rattle.ice_image.proofs.image.Image.tile_equals.Given as goal

abbrev pub invariant-loop-index : goal.invariant-loop-index
invariant-loop-index g l = AgreeBelow (λ (bit : RowCol). tile_bit_of l.self l.x l.y bit.row bit.col) l.bits l.values l.index
