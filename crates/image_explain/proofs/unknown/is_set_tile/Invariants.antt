use Rattle.std.proofs.Common.{◌≡◌, false}
use Rattle.index_search.specs.Places.{any_below}
use Rattle.plane_map.specs.Layout.{columns_of}
use Rattle.ice_image.specs.Either.{configuration_of}
use Rattle.ice_image.specs.Bits.{tile_bit_of}
use Rattle.image_explain.proofs.unknown.is_set_tile.Given as goal

abbrev pub invariant-loop-row : goal.invariant-loop-row
invariant-loop-row l = any_below l.row (λ row. any_below (columns_of l.at.kind) (λ col. tile_bit_of (configuration_of l.image) l.at.x l.at.y row col)) ≡ false
