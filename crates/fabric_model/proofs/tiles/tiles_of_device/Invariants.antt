use Rattle.std.proofs.Common.{◌≡◌}
use Rattle.index_search.specs.Places.{gathered_below}
use Rattle.plane_map.specs.Layout.{grid_width}
use Rattle.fabric_model.specs.TilesOfKind.{tile_if}
use Rattle.fabric_model.proofs.tiles.tiles_of_device.Given as goal

abbrev pub invariant-loop-y : goal.invariant-loop-y
invariant-loop-y l =
    l.tiles.items ≡ gathered_below l.y (λ y. gathered_below (grid_width l.device) (λ x. tile_if l.device l.kind x y))
