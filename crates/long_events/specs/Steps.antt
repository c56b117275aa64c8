-- The lines of a list of events of the long form. A line is an event, as in a plain list; `NAME ~ N`, where the input gets the other bit N
-- times; `repeat N`, which repeats the lines up to its `end`; or `end`. The form is this project's choice.
use Rattle.std.specs.Prelude.{ℕ, ◌^◌, ◌&&◌, ◌==◌, List, [], ◌∷◌, Option, Some, None, Result, Ok, Err, bytes_eq, codes, nat_lt, if◌then◌else◌}
use Rattle.std.specs.List.{after_first, before_first}
use Rattle.std.specs.Option.{option_to_list}
use Rattle.std.specs.Result.{result_err, result_ok}
use Rattle.seeds.specs.Seeds.{seed_of}
use Rattle.vlog_module.specs.Names.{is_word}
use Rattle.vlog_semantics.specs.declared.event.Event.{Event}
use Rattle.vlog_run.specs.declared.event.EventFault.{EventFault}
use Rattle.vlog_run.specs.declared.event.EventFault.TheVariants.{Form, Pin}
use Rattle.vlog_run.specs.Events.{event_of}
use Rattle.long_events.specs.declared.step.Step.{Step}
use Rattle.long_events.specs.declared.step.Step.TheVariants.{Give, Toggle, Repeat, End}

-- a line up to its first space
abbrev pub first_piece : List ℕ → List ℕ
first_piece line = before_first (λ byte. byte == 32) line

-- a line after its first space
abbrev pub after_piece : List ℕ → List ℕ
after_piece line = after_first (λ byte. byte == 32) line

-- a number from 1 to 2^32 - 1
abbrev pub in_range : Option ℕ → Option ℕ
in_range (Some number) = if nat_lt 0 number && nat_lt number (2 ^ 32) then Some number else None
in_range None = None

-- the count that a word writes, in digits as those of a seed
abbrev pub count_of : List ℕ → Option ℕ
count_of word = in_range (seed_of word)

-- a `repeat` with this count; a fault if there is none
abbrev pub repeat_of : ℕ → Option ℕ → Result Step EventFault
repeat_of line (Some count) = Ok (Repeat count)
repeat_of line None = Err (Form line)

-- the input with this index gets the other bit so many times; a fault if its name is no input
abbrev pub pin_toggled : ℕ → Option ℕ → ℕ → Result Step EventFault
pin_toggled line (Some pin) count = Ok (Toggle pin count)
pin_toggled line None count = Err (Pin line)

abbrev pub toggled_of : ℕ → Option ℕ → Option ℕ → Result Step EventFault
toggled_of line pin (Some count) = pin_toggled line pin count
toggled_of line pin None = Err (Form line)

abbrev pub given_of : Result Event EventFault → Result Step EventFault
given_of (Ok event) = Ok (Give event)
given_of (Err fault) = Err fault

-- the word after `~ `, if a text begins so
abbrev pub after_tilde : List ℕ → Option (List ℕ)
after_tilde (first ∷ second ∷ word) = if (first == 126) && (second == 32) then Some word else None
after_tilde _ = None

-- a line whose input, by its name, gets the other bit as often as a word says
abbrev pub toggle_of : (List ℕ → Option ℕ) → ℕ → List ℕ → List ℕ → Result Step EventFault
toggle_of pins line name word = if is_word name then toggled_of line (pins name) (count_of word) else Err (Form line)

-- a line that isn't a word of the form
abbrev pub input_of : (List ℕ → Option ℕ) → ℕ → List ℕ → Option (List ℕ) → Result Step EventFault
input_of pins line content (Some word) = toggle_of pins line (first_piece content) word
input_of pins line content None = given_of (event_of pins line content)

-- what a line says that isn't empty; its form is judged first, then its name. A line that begins with the word `repeat` is one, also in a
-- module with an input of that name.
unfoldable pub step_of : (List ℕ → Option ℕ) → ℕ → List ℕ → Result Step EventFault
step_of pins line content =
    if bytes_eq content (codes "end") then Ok End
    else if bytes_eq (first_piece content) (codes "repeat") then repeat_of line (count_of (after_piece content))
    else input_of pins line content (after_tilde (after_piece content))

-- what a line says; an empty line says nothing, and nor does one with a fault
abbrev pub line_step : (List ℕ → Option ℕ) → List ℕ → List Step
line_step pins [] = []
line_step pins (byte ∷ bytes) = option_to_list (result_ok (step_of pins 0 (byte ∷ bytes)))

-- what is wrong with a line by itself
abbrev pub own_fault : (List ℕ → Option ℕ) → ℕ → List ℕ → Option EventFault
own_fault pins line [] = None
own_fault pins line (byte ∷ bytes) = result_err (step_of pins line (byte ∷ bytes))
