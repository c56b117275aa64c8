use Rattle.std.proofs.Common.{◌≡◌, ◌++◌}
use Rattle.index_search.specs.Places.{gathered_below}
use Rattle.text_lines.specs.Written.{text_of}
use Rattle.plane_map.specs.Layout.{grid_width, kind_of}
use Rattle.ice_gen.specs.Database.{by_cells}
use Rattle.ice_gen.specs.Inside.{lines_into}
use Rattle.ice_gen.proofs.buffers.append_buffers.Given as goal

abbrev pub invariant-loop-y : goal.invariant-loop-y
invariant-loop-y l =
    l.text.items ≡ l.initial.text.items ++ text_of (gathered_below l.y (λ y. gathered_below (grid_width l.device) (λ x. by_cells l.device (lines_into l.input l.device x y) x y (kind_of l.device x y))))
