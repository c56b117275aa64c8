-- What the lines of a list of events of the long form stand for. The form is this project's choice.
use Rattle.std.specs.Prelude.{ℕ, zero, suc, Bool, false, not, List, [], ◌∷◌, ◌++◌, get_or, replicate, slice_set}
use Rattle.vlog_semantics.specs.declared.event.Event.{Event}
use Rattle.long_events.specs.declared.moves.Move.{Move}
use Rattle.long_events.specs.declared.moves.Move.TheVariants.{Given, Toggled}
use Rattle.long_events.specs.declared.step.Step.{Step}
use Rattle.long_events.specs.declared.step.Step.TheVariants.{Give, Toggle, Repeat, End}

-- ---- moves

-- so many times the same list
unfoldable pub times : {A : Type 0} → ℕ → List A → List A
times zero list = []
times (suc count) list = list ++ times count list

-- a list before the first of some parts
abbrev pub led_by : {A : Type 0} → List A → List (List A) → List (List A)
led_by list [] = list ∷ []
led_by list (part ∷ parts) = (list ++ part) ∷ parts

-- the first part comes so many times, and then the second one
abbrev pub repeated : ℕ → List (List Move) → List (List Move)
repeated count [] = []
repeated count (body ∷ parts) = led_by (times count body) parts

-- The moves of lines, in parts: those up to the first `end` whose `repeat` isn't among these lines, those from there up to the next such
-- `end`, and so on. So the lines after a `repeat` have its body as their first part, and what follows its `end` in the others.
unfoldable pub parts_of : List Step → List (List Move)
parts_of [] = [] ∷ []
parts_of (Give event ∷ steps) = led_by (Given event ∷ []) (parts_of steps)
parts_of (Toggle pin count ∷ steps) = led_by (replicate count (Toggled pin)) (parts_of steps)
parts_of (Repeat count ∷ steps) = repeated count (parts_of steps)
parts_of (End ∷ steps) = [] ∷ parts_of steps

-- the moves of lines in which each `repeat` has its `end`
abbrev pub moves_of : List Step → List Move
moves_of steps = get_or (parts_of steps) 0 []

-- ---- events

-- the event of a move, if the inputs have these bits
abbrev pub event_by : List Bool → Move → Event
event_by bits (Given event) = event
event_by bits (Toggled pin) = record { pin = pin; bit = not (get_or bits pin false) }

-- the bits of the inputs after an event
abbrev pub bits_after : List Bool → Event → List Bool
bits_after bits event = slice_set bits event.pin event.bit

-- the events of moves, from these bits of the inputs on
unfoldable pub events_from : List Bool → List Move → List Event
events_from bits [] = []
events_from bits (move ∷ moves) = event_by bits move ∷ events_from (bits_after bits (event_by bits move)) moves
