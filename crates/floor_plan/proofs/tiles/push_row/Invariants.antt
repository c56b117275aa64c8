use Rattle.std.proofs.Common.{◌≡◌, ◌++◌, map}
use Rattle.index_search.specs.Places.{gathered_below}
use Rattle.plane_map.specs.Layout.{kind_of}
use Rattle.plan_marks.specs.Plans.{tile_in}
use Rattle.floor_plan.specs.ByTile.{lists_of, tile_by}
use Rattle.floor_plan.proofs.tiles.push_row.Given as goal

abbrev pub invariant-loop-x : goal.invariant-loop-x
invariant-loop-x l =
    map tile_in l.tiles.items ≡ map tile_in l.initial.tiles.items ++ gathered_below l.x (λ x. tile_by (lists_of l.marks.lists.items) l.counts x l.y (kind_of l.device x l.y))
