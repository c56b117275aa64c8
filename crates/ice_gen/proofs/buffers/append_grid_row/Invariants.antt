use Rattle.std.proofs.Common.{◌≡◌, ◌++◌}
use Rattle.index_search.specs.Places.{gathered_below}
use Rattle.text_lines.specs.Written.{text_of}
use Rattle.plane_map.specs.Layout.{kind_of}
use Rattle.ice_gen.specs.Database.{by_cells}
use Rattle.ice_gen.specs.Inside.{lines_into}
use Rattle.ice_gen.proofs.buffers.append_grid_row.Given as goal

abbrev pub invariant-loop-x : goal.invariant-loop-x
invariant-loop-x l =
    l.text.items ≡ l.initial.text.items ++ text_of (gathered_below l.x (λ x. by_cells l.device (lines_into l.input l.device x l.y) x l.y (kind_of l.device x l.y)))
