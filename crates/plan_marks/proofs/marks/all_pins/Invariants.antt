use Rattle.std.proofs.Common.{◌≡◌, map, take}
use Rattle.std.specs.Prelude.{sum_by}
use Rattle.plan_marks.specs.Plans.{pins_in, tile_in}
use Rattle.plan_marks.proofs.marks.all_pins.Given as goal

abbrev pub invariant-loop-tile : goal.invariant-loop-tile
invariant-loop-tile l =
    l.count ≡ sum_by (λ tile. pins_in tile.kind) (map tile_in (take l.tile-index l.plan.tiles.items))
