-- Lists of events of the long form: the events that a text stands for, and why a text is refused.
use Rattle.std.specs.Prelude.{◌≡◌, ℕ, ◌+◌, ◌-◌, ◌^◌, Bool, true, false, ◌&&◌, ◌==◌, List, ◌∷◌, Option, Some, None, flat_map, fold, length, nat_lt, replicate, take, if◌then◌else◌}
use Rattle.std.specs.Option.{option_map}
use Rattle.index_search.specs.Places.{first_below, last_below, or_else}
use Rattle.text_lines.specs.Lines.{line_at}
use Rattle.vlog_module.specs.declared.modules.Port.{Port}
use Rattle.vlog_semantics.specs.declared.event.Event.{Event}
use Rattle.vlog_semantics.specs.Run.{input_names, pin_of}
use Rattle.vlog_run.specs.declared.event.EventFault.TheVariants.{Memory}
use Rattle.vlog_run.specs.Events.{cut_lines}
use Rattle.long_events.specs.declared.fault.LongFault.{LongFault}
use Rattle.long_events.specs.declared.fault.LongFault.TheVariants as fault
use Rattle.long_events.specs.declared.moves.Move.{Move}
use Rattle.long_events.specs.declared.step.Step.{Step}
use Rattle.long_events.specs.declared.step.Step.TheVariants.{Repeat, End}
use Rattle.long_events.specs.Moves.{events_from, moves_of}
use Rattle.long_events.specs.Steps.{line_step, own_fault}

-- what all lines say
abbrev pub steps_of : (List ℕ → Option ℕ) → List (List ℕ) → List Step
steps_of pins lines = flat_map (line_step pins) lines

-- ---- levels

abbrev pub level_step : ℕ → Step → ℕ
level_step level (Repeat count) = level + 1
level_step level End = level - 1
level_step level _ = level

-- how many `repeat`s are open after these lines
abbrev pub level_after : List Step → ℕ
level_after steps = fold level_step 0 steps

-- how many `repeat`s are open before the line at a place
abbrev pub level_before : (List ℕ → Option ℕ) → List (List ℕ) → ℕ → ℕ
level_before pins lines place = level_after (steps_of pins (take place lines))

-- ---- faults

-- a `repeat` inside eight others, and an `end` without a `repeat`
abbrev pub level_fault : ℕ → ℕ → List Step → Option LongFault
level_fault line level (Repeat count ∷ steps) = if nat_lt level 8 then None else Some (fault.Repeat line)
level_fault line level (End ∷ steps) = if level == 0 then Some (fault.Repeat line) else None
level_fault line level _ = None

-- what is wrong with a line: with itself, or with its level
abbrev pub fault_on : (List ℕ → Option ℕ) → ℕ → ℕ → List ℕ → Option LongFault
fault_on pins line level content = or_else (option_map fault.Event (own_fault pins line content)) (level_fault line level (line_step pins content))

abbrev pub line_fault : (List ℕ → Option ℕ) → List (List ℕ) → ℕ → Option LongFault
line_fault pins lines place = fault_on pins (place + 1) (level_before pins lines place) (line_at lines place)

abbrev pub is_repeat : List Step → Bool
is_repeat (Repeat count ∷ steps) = true
is_repeat _ = false

-- whether the line at a place is a `repeat` that is inside no other one
abbrev pub is_outermost : (List ℕ → Option ℕ) → List (List ℕ) → ℕ → Bool
is_outermost pins lines place = is_repeat (line_step pins (line_at lines place)) && (level_before pins lines place == 0)

-- a `repeat` without an `end`. If there are several, it is told at the outermost one: the last `repeat` that is inside no other one.
abbrev pub open_fault : (List ℕ → Option ℕ) → List (List ℕ) → Option LongFault
open_fault pins lines =
    if level_after (steps_of pins lines) == 0 then None
    else option_map (λ place. fault.Repeat (place + 1)) (last_below (length lines) (is_outermost pins lines))

-- the first faulty line, counted from 1, and what is wrong with it; if no line is faulty, a `repeat` without an `end`
unfoldable pub lines_fault : (List ℕ → Option ℕ) → List (List ℕ) → Option LongFault
lines_fault pins lines = or_else (first_below (length lines) (line_fault pins lines)) (open_fault pins lines)

-- so many events that the lines of a run can't be counted in 64 bits
unfoldable pub count_fault : List Move → Option LongFault
count_fault moves = if nat_lt (length moves) (2 ^ 64 - 1) then None else Some fault.Long

-- ---- texts

-- the fault of a text, if it has one
abbrev pub long_fault : List Port → List ℕ → Option LongFault
long_fault ports bytes =
    or_else (lines_fault (pin_of ports) (cut_lines bytes)) (count_fault (moves_of (steps_of (pin_of ports) (cut_lines bytes))))

-- the bits of the inputs at the start
abbrev pub start_bits : List Port → List Bool
start_bits ports = replicate (length (input_names ports)) false

-- the events that a text stands for that has no fault
abbrev pub long_events : List Port → List ℕ → List Event
long_events ports bytes = events_from (start_bits ports) (moves_of (steps_of (pin_of ports) (cut_lines bytes)))

-- a fault that is answered is the fault of the text; out of memory says nothing of the text
abbrev pub TellsLong : Option LongFault → LongFault → Type 0
TellsLong told (fault.Event (Memory e)) = Unit {0}
TellsLong told answered = told ≡ Some answered
