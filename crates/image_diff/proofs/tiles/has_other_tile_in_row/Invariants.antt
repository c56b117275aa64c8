use Rattle.std.proofs.Common.{◌≡◌, false}
use Rattle.index_search.specs.Places.{any_below}
use Rattle.ice_image.specs.Either.{configuration_of}
use Rattle.image_diff.specs.Differences.{is_other_tile}
use Rattle.image_diff.proofs.tiles.has_other_tile_in_row.Given as goal

abbrev pub invariant-loop-x : goal.invariant-loop-x
invariant-loop-x l =
    any_below l.x (λ x. is_other_tile (configuration_of l.first) (configuration_of l.second) x l.y) ≡ false
