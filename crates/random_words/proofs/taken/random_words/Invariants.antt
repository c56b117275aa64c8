use Rattle.std.proofs.Common.{◌≡◌}
use Rattle.std.specs.Prelude.{None}
use Rattle.index_search.specs.Places.{first_below}
use Rattle.random_words.specs.Draws.{drawn}
use Rattle.random_words.specs.Taken.{if_taken}
use Rattle.random_words.proofs.taken.random_words.Given as goal

abbrev pub invariant-loop-draw : goal.invariant-loop-draw
invariant-loop-draw l = first_below l.draw (λ draw. if_taken (drawn l.size.width l.size.depth l.seed draw)) ≡ None
