use Rattle.std.proofs.Common.{◌≡◌, ◌++◌}
use Rattle.index_search.specs.Places.{gathered_below}
use Rattle.text_lines.specs.Written.{text_of}
use Rattle.plane_map.specs.Layout.{kind_of, grid_width}
use Rattle.ice_image.specs.Either.{configuration_of}
use Rattle.asc_text.specs.Canonical.{lines_of_tile_at}
use Rattle.asc_text.proofs.writing.tiles.append_tiles.Given as goal

abbrev pub invariant-loop-y : goal.invariant-loop-y
invariant-loop-y l =
    l.text.items ≡ l.initial.text.items ++ text_of (gathered_below l.y (λ y. gathered_below (grid_width (configuration_of l.image).layout.device) (λ x. lines_of_tile_at (configuration_of l.image) x y (kind_of (configuration_of l.image).layout.device x y))))
