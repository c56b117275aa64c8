use Rattle.std.proofs.Common.{◌≡◌, ◌++◌}
use Rattle.index_search.specs.Places.{gathered_below}
use Rattle.text_lines.specs.Written.{text_of}
use Rattle.plane_map.specs.Layout.{kind_of, grid_width}
use Rattle.ice_image.specs.Either.{configuration_of}
use Rattle.chipdb_reader.specs.Kept.{database_in}
use Rattle.image_explain.specs.Explained.{set_tile_lines}
use Rattle.image_explain.proofs.explaining.append_tiles.Given as goal

abbrev pub invariant-loop-y : goal.invariant-loop-y
invariant-loop-y l =
    l.text.items ≡ l.initial.text.items ++ text_of (gathered_below l.y (λ y. gathered_below (grid_width (configuration_of l.image).layout.device) (λ x. set_tile_lines (database_in l.db) (configuration_of l.image) x y (kind_of (configuration_of l.image).layout.device x y))))
