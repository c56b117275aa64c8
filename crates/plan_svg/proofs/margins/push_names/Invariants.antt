use Rattle.std.proofs.Common.{◌≡◌, ◌++◌, flat_map, map, take}
use Rattle.plan_svg.specs.Margins.{tile_names}
use Rattle.plan_svg.specs.Names.{names_in}
use Rattle.plan_marks.specs.Plans.{tile_in}
use Rattle.plan_svg.proofs.margins.push_names.Given as goal

abbrev pub invariant-loop-tile : goal.invariant-loop-tile
invariant-loop-tile l =
    l.text.items ≡ l.initial.text.items ++ flat_map (λ tile. tile_names l.sheet (names_in l.names) tile.x tile.y tile.kind) (map tile_in (take l.tile-index l.plan.tiles.items))
