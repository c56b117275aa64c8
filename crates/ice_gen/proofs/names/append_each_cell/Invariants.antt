use Rattle.std.proofs.Common.{◌≡◌, ◌++◌, map}
use Rattle.index_search.specs.Places.{gathered_below}
use Rattle.text_lines.specs.Written.{text_of}
use Rattle.ice_gen.specs.Numbers.{cell_number}
use Rattle.ice_gen.specs.Database.{name_line, cell_names}
use Rattle.ice_gen.proofs.names.append_each_cell.Given as goal

abbrev pub invariant-loop-i : goal.invariant-loop-i
invariant-loop-i l =
    l.text.items ≡ l.initial.text.items ++ text_of (map (name_line l.x l.y) (gathered_below l.i (λ i. cell_names l.device l.net (cell_number l.device l.x l.y i) i)))
