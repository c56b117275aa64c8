use Rattle.std.proofs.Common.{◌≡◌, ◌++◌}
use Rattle.index_search.specs.Places.{gathered_below}
use Rattle.text_lines.specs.Written.{text_of}
use Rattle.plane_map.specs.Layout.{kind_of}
use Rattle.ice_image.specs.Either.{configuration_of}
use Rattle.image_diff.specs.Differences.{ram_changes}
use Rattle.image_diff.proofs.rams.append_grid_row.Given as goal

abbrev pub invariant-loop-x : goal.invariant-loop-x
invariant-loop-x l =
    l.text.items ≡ l.initial.text.items ++ text_of (gathered_below l.x (λ x.
    ram_changes (configuration_of l.first) (configuration_of l.second) x l.y (kind_of (configuration_of l.first).layout.device x l.y)))
