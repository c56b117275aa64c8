use Rattle.std.proofs.Common.{◌≡◌, ◌++◌}
use Rattle.index_search.specs.Places.{gathered_below}
use Rattle.text_lines.specs.Written.{text_of}
use Rattle.plane_map.specs.Layout.{kind_of, grid_width}
use Rattle.ice_image.specs.Either.{configuration_of}
use Rattle.chipdb_reader.specs.Kept.{database_in}
use Rattle.image_diff.specs.Differences.{changes_at}
use Rattle.image_diff.proofs.tiles.append_explained.Given as goal

abbrev pub invariant-loop-y : goal.invariant-loop-y
invariant-loop-y l =
    l.text.items ≡ l.initial.text.items ++ text_of (gathered_below l.y (λ y. gathered_below (grid_width (configuration_of l.first).layout.device) (λ x.
    changes_at (database_in l.db) (configuration_of l.first) (configuration_of l.second) x y (kind_of (configuration_of l.first).layout.device x y))))
