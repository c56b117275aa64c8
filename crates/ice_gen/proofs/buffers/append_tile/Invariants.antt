use Rattle.std.proofs.Common.{◌≡◌, ◌++◌}
use Rattle.index_search.specs.Places.{gathered_below}
use Rattle.text_lines.specs.Written.{text_of}
use Rattle.ice_gen.specs.Numbers.{cell_number}
use Rattle.ice_gen.specs.Inside.{lines_into}
use Rattle.ice_gen.proofs.buffers.append_tile.Given as goal

abbrev pub invariant-loop-i : goal.invariant-loop-i
invariant-loop-i l =
    l.text.items ≡ l.initial.text.items ++ text_of (gathered_below l.i (λ i. lines_into l.input l.device l.x l.y (cell_number l.device l.x l.y i) i))
