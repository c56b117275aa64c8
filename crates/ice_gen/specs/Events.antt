-- The events of the generated design; a seed fixes them.
use Rattle.std.specs.Prelude.{ℕ, ◌+◌, ◌%◌, ◌^◌, List, [], ◌∷◌}
use Rattle.index_search.specs.Places.{gathered_below}
use Rattle.ice_gen.specs.Draws.{draw, has_bit}
use Rattle.ice_gen.specs.declared.event.PinEvent.{PinEvent}

-- the event of a draw: which input pin, and its new value
abbrev pub event_of : ℕ → PinEvent
event_of number = record { second = has_bit number 0; bit = has_bit number 1 }

-- the seed of the events' draws, which is the image's seed plus one
abbrev pub event_seed : ℕ → ℕ
event_seed seed = (seed + 1) % 2 ^ 64

-- `count` events, one for each draw
unfoldable pub generated_events : ℕ → ℕ → List PinEvent
generated_events seed count = gathered_below count (λ k. event_of (draw (event_seed seed) k) ∷ [])
