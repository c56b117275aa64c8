use Rattle.std.proofs.Common.{◌≡◌, ◌+◌, ◌∷◌, ◌++◌}
use Rattle.index_search.specs.Places.{gathered_below}
use Rattle.ice_gen.specs.Database.{bit_word}
use Rattle.ice_gen.proofs.head.append_ten_bits.Given as goal

abbrev pub invariant-loop-k : goal.invariant-loop-k
invariant-loop-k l =
    l.text.items ≡ l.initial.text.items ++ gathered_below l.k (λ k. 32 ∷ bit_word l.row (36 + k))
