use Rattle.std.proofs.Common.{◌≡◌, count_by, flat_map, map, take}
use Rattle.plan_marks.specs.Plans.{has_class, tile_in}
use Rattle.plan_marks.proofs.marks.count_of.Given as goal

abbrev pub invariant-loop-tile : goal.invariant-loop-tile
invariant-loop-tile l =
    l.count ≡ count_by (has_class l.classes) (flat_map (λ tile. tile.marks) (map tile_in (take l.tile-index l.plan.tiles.items)))
