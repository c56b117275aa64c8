use Rattle.std.proofs.Common.{◌≡◌, false}
use Rattle.index_search.specs.Places.{any_below}
use Rattle.ice_image.specs.Either.{configuration_of}
use Rattle.ice_image.specs.Bits.{tile_bit_of}
use Rattle.image_explain.proofs.unknown.is_set_row.Given as goal

abbrev pub invariant-loop-col : goal.invariant-loop-col
invariant-loop-col l = any_below l.col (λ col. tile_bit_of (configuration_of l.image) l.at.x l.at.y l.row col) ≡ false
