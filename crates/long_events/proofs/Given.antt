-- Events that are given one after another.
use Rattle.std.proofs.Common.{◌≡◌, ◌∙◌, ℕ, zero, suc, Bool, true, List, [], ◌∷◌, ◌++◌, flat_map, get_or, length, map, replicate, refl, sym, ap, ap₂, append-nil, arith}
use Rattle.std.proofs.lemmas.List.Concat.{flat_map-append}
use Rattle.vlog_semantics.specs.declared.event.Event.{Event}
use Rattle.long_events.specs.declared.moves.Move.{Move}
use Rattle.long_events.specs.declared.moves.Move.TheVariants as move
use Rattle.long_events.specs.declared.step.Step.{Step}
use Rattle.long_events.specs.declared.step.Step.TheVariants.{Give, Toggle, Repeat, End}
use Rattle.long_events.specs.Moves.{bits_after, event_by, events_from, led_by, moves_of, parts_of, repeated, times}
use Rattle.long_events.specs.inside.Cursors.{Stands, Tick, begun, moves_left, tick_moves, tick_parts, ticks_left, turned_over}
use Rattle.long_events.specs.inside.Cursors.Tick.{given, turned}
use Rattle.long_events.specs.inside.Nesting.{nests}

-- ---- the moves of what a cursor does

abbrev moves_in : List Tick → List Move
moves_in ticks = flat_map tick_moves ticks

moves-led_by : (ticks : List Tick) (parts : List (List Tick)) → map moves_in (led_by ticks parts) ≡ led_by (moves_in ticks) (map moves_in parts)
moves-led_by ticks [] = refl
moves-led_by ticks (part ∷ parts) = ap (λ (first : List Move). first ∷ map moves_in parts) (flat_map-append tick_moves ticks part)

moves-pass : (body : List Tick) → moves_in (body ++ turned ∷ []) ≡ moves_in body
moves-pass body = flat_map-append tick_moves body (turned ∷ []) ∙ append-nil (moves_in body)

moves-times : (count : ℕ) (body : List Tick) → moves_in (times count (body ++ turned ∷ [])) ≡ times count (moves_in body)
unfolding times
moves-times zero body = refl
moves-times (suc count) body =
    flat_map-append tick_moves (body ++ turned ∷ []) (times count (body ++ turned ∷ []))
    ∙ ap₂ (λ (one others : List Move). one ++ others) (moves-pass body) (moves-times count body)

moves-toggles : (count pin : ℕ) → moves_in (replicate count (given (move.Toggled pin))) ≡ replicate count (move.Toggled pin)
moves-toggles zero pin = refl
moves-toggles (suc count) pin = ap (λ (rest : List Move). move.Toggled pin ∷ rest) (moves-toggles count pin)

moves-turned_over : (count : ℕ) (parts : List (List Tick)) → map moves_in (turned_over count parts) ≡ repeated count (map moves_in parts)
moves-turned_over count [] = refl
moves-turned_over count (body ∷ parts) =
    moves-led_by (turned ∷ times count (body ++ turned ∷ [])) parts ∙ ap (λ (moves : List Move). led_by moves (map moves_in parts)) (moves-times count body)

-- a cursor gives the moves of lines
moves-parts : (steps : List Step) → map moves_in (tick_parts steps) ≡ parts_of steps
unfolding tick_parts parts_of
moves-parts [] = refl
moves-parts (Give event ∷ steps) = moves-led_by (given (move.Given event) ∷ []) (tick_parts steps) ∙ ap (led_by (move.Given event ∷ [])) (moves-parts steps)
moves-parts (Toggle pin count ∷ steps) =
    moves-led_by (turned ∷ replicate count (given (move.Toggled pin))) (tick_parts steps)
    ∙ ap₂ (λ (moves : List Move) (parts : List (List Move)). led_by moves parts) (moves-toggles count pin) (moves-parts steps)
moves-parts (Repeat count ∷ steps) = moves-turned_over count (tick_parts steps) ∙ ap (repeated count) (moves-parts steps)
moves-parts (End ∷ steps) = ap (λ (parts : List (List Move)). [] ∷ parts) (moves-parts steps)

first-moves : (parts : List (List Tick)) → moves_in (get_or parts 0 []) ≡ get_or (map moves_in parts) 0 []
first-moves [] = refl
first-moves (part ∷ parts) = refl

-- ---- before the first step

pub moves-begun : (steps : List Step) → moves_left steps begun ≡ moves_of steps
unfolding moves_left ticks_left
moves-begun steps = first-moves (tick_parts steps) ∙ ap (λ (parts : List (List Move)). get_or parts 0 []) (moves-parts steps)

pub begun-stands : (steps : List Step) → nests 0 steps ≡ true → Stands steps begun
begun-stands steps nested = record { deep = omega arith; room = refl; nested = nested; joined = refl }

-- ---- a plain list

pub list-nests : (events : List Event) → nests 0 (map (λ event. Give event) events) ≡ true
unfolding nests
list-nests [] = refl
list-nests (event ∷ events) = list-nests events

pub first-led_by : (moves : List Move) (parts : List (List Move)) → get_or (led_by moves parts) 0 [] ≡ moves ++ get_or parts 0 []
first-led_by moves [] = sym (append-nil moves)
first-led_by moves (part ∷ parts) = refl

pub list-moves : (events : List Event) → moves_of (map (λ event. Give event) events) ≡ map (λ event. move.Given event) events
unfolding parts_of
list-moves [] = refl
list-moves (event ∷ events) =
    first-led_by (move.Given event ∷ []) (parts_of (map (λ event. Give event) events)) ∙ ap (λ (rest : List Move). move.Given event ∷ rest) (list-moves events)

pub length-list : (events : List Event) → length (map (λ event. move.Given event) events) ≡ length events
length-list [] = refl
length-list (event ∷ events) = ap suc (length-list events)

pub list-events : (bits : List Bool) (events : List Event) → events_from bits (map (λ event. move.Given event) events) ≡ events
unfolding events_from
list-events bits [] = refl
list-events bits (event ∷ events) = ap (λ (rest : List Event). event ∷ rest) (list-events (bits_after bits event) events)

-- ---- events

pub length-events_from : (bits : List Bool) (moves : List Move) → length (events_from bits moves) ≡ length moves
unfolding events_from
length-events_from bits [] = refl
length-events_from bits (first ∷ moves) = ap suc (length-events_from (bits_after bits (event_by bits first)) moves)

-- the event of the first move, and those of the others
pub events-next : (bits : List Bool) (first : Move) (moves : List Move) → events_from bits (first ∷ moves) ≡ event_by bits first ∷ events_from (bits_after bits (event_by bits first)) moves
unfolding events_from
events-next bits first moves = refl

-- no moves have no events
pub events-none : (bits : List Bool) → events_from bits [] ≡ []
unfolding events_from
events-none bits = refl
