use Rattle.std.proofs.Common.{◌≡◌, [], ◌∷◌}
use Rattle.index_search.specs.Places.{gathered_below}
use Rattle.ice_gen.specs.Draws.{draw}
use Rattle.ice_gen.specs.Events.{event_of}
use Rattle.ice_gen.proofs.event.events.Given as goal

abbrev pub invariant-loop : goal.invariant-loop
invariant-loop l =
    (l.events.items ≡ gathered_below l.counter (λ k. event_of (draw l.initial.draws.seed k) ∷ []))
    × (l.draws.seed ≡ l.initial.draws.seed) × (l.draws.count ≡ l.counter)
