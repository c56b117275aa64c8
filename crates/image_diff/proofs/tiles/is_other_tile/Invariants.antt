use Rattle.std.proofs.Common.{◌≡◌, false}
use Rattle.index_search.specs.Places.{any_below}
use Rattle.plane_map.specs.Layout.{columns_at}
use Rattle.ice_image.specs.Bits.{tile_bit_of}
use Rattle.ice_image.specs.Either.{configuration_of}
use Rattle.image_diff.specs.Differences.{differ}
use Rattle.image_diff.proofs.tiles.is_other_tile.Given as goal

abbrev pub invariant-loop-row : goal.invariant-loop-row
invariant-loop-row l =
    any_below l.row (λ row. any_below (columns_at (configuration_of l.first).layout.device l.x l.y) (λ col. differ (tile_bit_of (configuration_of l.first) l.x l.y row col) (tile_bit_of (configuration_of l.second) l.x l.y row col))) ≡ false
