use Rattle.std.proofs.Common.{◌≡◌, [], ◌∷◌, ◌++◌}
use Rattle.index_search.specs.Places.{gathered_below}
use Rattle.text_lines.specs.Written.{text_of}
use Rattle.ice_gen.specs.Database.{pin_type_line}
use Rattle.ice_gen.proofs.head.append_pin_types.Given as goal

abbrev pub invariant-loop-k : goal.invariant-loop-k
invariant-loop-k l =
    l.text.items ≡ l.initial.text.items ++ text_of (gathered_below l.k (λ k. pin_type_line k ∷ []))
