use Rattle.std.proofs.Common.{◌≡◌, ◌++◌, flat_map, map, take}
use Rattle.plan_svg.specs.Names.{names_in}
use Rattle.plan_marks.specs.Plans.{tile_in}
use Rattle.plan_svg.specs.Tiles.{tile_text}
use Rattle.plan_svg.proofs.svg.push_tiles.Given as goal

abbrev pub invariant-loop-tile : goal.invariant-loop-tile
invariant-loop-tile l =
    l.text.items ≡ l.initial.text.items ++ flat_map (tile_text l.sheet (names_in l.names)) (map tile_in (take l.tile-index l.plan.tiles.items))
