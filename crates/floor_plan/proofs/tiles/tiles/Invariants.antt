use Rattle.std.proofs.Common.{◌≡◌, map}
use Rattle.index_search.specs.Places.{gathered_below}
use Rattle.plane_map.specs.Layout.{grid_width, kind_of}
use Rattle.plan_marks.specs.Plans.{tile_in}
use Rattle.floor_plan.specs.ByTile.{lists_of, tile_by}
use Rattle.floor_plan.proofs.tiles.tiles.Given as goal

abbrev pub invariant-loop-y : goal.invariant-loop-y
invariant-loop-y l =
    map tile_in l.tiles.items ≡ gathered_below l.y (λ y. gathered_below (grid_width l.device) (λ x. tile_by (lists_of l.marks.lists.items) l.counts x y (kind_of l.device x y)))
