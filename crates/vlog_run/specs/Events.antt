-- Lists of events. Each line is one event: the name of an input, one space, and the bit. Spaces and tabs at a line's end don't count, and
-- an empty line is skipped.
use Rattle.std.specs.Prelude.{◌≡◌, ℕ, ◌+◌, ◌-◌, Bool, true, false, List, [], ◌∷◌, Option, Some, None, Result, Ok, Err, bytes_eq, drop, flat_map, length, map, take, if◌then◌else◌}
use Rattle.std.specs.Option.{option_to_list}
use Rattle.std.specs.Result.{result_err, result_ok}
use Rattle.index_search.specs.Places.{first_below}
use Rattle.text_lines.specs.Lines.{line_at, lines_of, trimmed}
use Rattle.vlog_module.specs.declared.modules.Port.{Port}
use Rattle.vlog_module.specs.Names.{is_word}
use Rattle.vlog_semantics.specs.declared.event.Event.{Event}
use Rattle.vlog_run.specs.declared.event.EventFault.{EventFault}
use Rattle.vlog_run.specs.declared.event.EventFault.TheVariants.{Form, Pin, Memory}
use Rattle.vlog_semantics.specs.Run.{pin_of}

-- the lines of a text, each without the spaces and tabs at its end
abbrev pub cut_lines : List ℕ → List (List ℕ)
cut_lines bytes = map trimmed (lines_of bytes)

-- a line without its last two bytes, which have to be a space and the bit
abbrev pub name_part : List ℕ → List ℕ
name_part line = take (length line - 2) line

abbrev pub bit_part : List ℕ → List ℕ
bit_part line = drop (length line - 2) line

-- the bit that a space and a digit spell
abbrev pub bit_written : List ℕ → Option Bool
bit_written bytes = if bytes_eq bytes (32 ∷ 48 ∷ []) then Some false else if bytes_eq bytes (32 ∷ 49 ∷ []) then Some true else None

-- the event of a line whose name is the input with this index; a fault if its name is no input
abbrev pub pin_event : ℕ → Option ℕ → Bool → Result Event EventFault
pin_event line (Some pin) bit = Ok (record { pin = pin; bit = bit })
pin_event line None bit = Err (Pin line)

abbrev pub bit_event : ℕ → Option ℕ → Option Bool → Result Event EventFault
bit_event line pin (Some bit) = pin_event line pin bit
bit_event line pin None = Err (Form line)

-- the event of a line that isn't empty; its form is judged first, then its name
unfoldable pub event_of : (List ℕ → Option ℕ) → ℕ → List ℕ → Result Event EventFault
event_of pins line content =
    if is_word (name_part content) then bit_event line (pins (name_part content)) (bit_written (bit_part content)) else Err (Form line)

-- the event of a line; an empty line has none
abbrev pub line_event : (List ℕ → Option ℕ) → List ℕ → List Event
line_event pins [] = []
line_event pins (byte ∷ bytes) = option_to_list (result_ok (event_of pins 0 (byte ∷ bytes)))

abbrev pub line_fault : (List ℕ → Option ℕ) → ℕ → List ℕ → Option EventFault
line_fault pins line [] = None
line_fault pins line (byte ∷ bytes) = result_err (event_of pins line (byte ∷ bytes))

-- the first faulty line, counted from 1, and what is wrong with it
unfoldable pub first_fault : (List ℕ → Option ℕ) → List (List ℕ) → Option EventFault
first_fault pins lines = first_below (length lines) (λ place. line_fault pins (place + 1) (line_at lines place))

-- the fault of a text, if it has one
abbrev pub event_fault : List Port → List ℕ → Option EventFault
event_fault ports bytes = first_fault (pin_of ports) (cut_lines bytes)

-- the events of a text that has no fault
abbrev pub events_of : List Port → List ℕ → List Event
events_of ports bytes = flat_map (line_event (pin_of ports)) (cut_lines bytes)

-- a fault that is answered is the fault of the text; out of memory says nothing of the text
abbrev pub TellsEvent : Option EventFault → EventFault → Type 0
TellsEvent fault (Memory e) = Unit {0}
TellsEvent fault told = fault ≡ Some told
