use Rattle.std.proofs.Common.{◌≡◌, ◌++◌, map}
use Rattle.index_search.specs.Places.{gathered_below}
use Rattle.text_lines.specs.Written.{text_of}
use Rattle.ice_gen.specs.Database.{name_line, names_at}
use Rattle.ice_gen.proofs.names.append_tiles.Given as goal

abbrev pub invariant-loop-x : goal.invariant-loop-x
invariant-loop-x l =
    l.text.items ≡ l.initial.text.items ++ text_of (gathered_below l.x (λ x. map (name_line x l.y) (names_at l.device l.net x l.y)))
