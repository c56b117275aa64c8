use Rattle.std.proofs.Common.{◌≡◌, false}
use Rattle.index_search.specs.Places.{any_below}
use Rattle.plane_map.specs.Layout.{grid_width}
use Rattle.ice_image.specs.Either.{configuration_of}
use Rattle.image_diff.specs.Differences.{is_other_tile}
use Rattle.image_diff.proofs.tiles.has_other_tile.Given as goal

abbrev pub invariant-loop-y : goal.invariant-loop-y
invariant-loop-y l =
    any_below l.y (λ y. any_below (grid_width (configuration_of l.first).layout.device) (λ x. is_other_tile (configuration_of l.first) (configuration_of l.second) x y)) ≡ false
