-- The inputs of events of the long form are those of the module.
use Rattle.std.proofs.Common.{◌≡◌, ℕ, zero, suc, ◌^◌, ◌<◌, Bool, true, false, cond, not, List, [], ◌∷◌, ◌++◌, Option, Some, None, Result, Ok, Err, flat_map, get_or, length, replicate, refl, sym, ap, arith, subst}
use Rattle.std.specs.Prelude.{All, ◌&&◌, bytes_eq, codes, nat_lt, if◌then◌else◌}
use Rattle.std.specs.List.{AllByRecursion, filter}
use Rattle.std.specs.Option.{option_to_list}
use Rattle.std.specs.Result.{result_ok}
use Rattle.std.proofs.lemmas.Bool.{cond_both, ltb-true}
use Rattle.std.proofs.lemmas.List.Elements.{All-from_recursion}
use Rattle.seeds.specs.Seeds.{seed_of}
use Rattle.vlog_module.specs.declared.modules.Port.{Port}
use Rattle.vlog_module.specs.Names.{is_word}
use Rattle.vlog_semantics.specs.declared.event.Event.{Event}
use Rattle.vlog_semantics.specs.Named.{names_of}
use Rattle.vlog_semantics.specs.Run.{input_names, input_start, pin_of}
use Rattle.vlog_run.specs.declared.event.EventFault.{EventFault}
use Rattle.vlog_run.specs.declared.event.EventFault.TheVariants.{Form}
use Rattle.vlog_run.specs.Events.{bit_event, bit_part, bit_written, cut_lines, event_of, name_part, pin_event}
use Rattle.vlog_run.proofs.EventLines.{numbered-below}
use Rattle.long_events.specs.declared.moves.Move.{Move}
use Rattle.long_events.specs.declared.moves.Move.TheVariants as move
use Rattle.long_events.specs.declared.step.Step.{Step}
use Rattle.long_events.specs.declared.step.Step.TheVariants.{Give, Toggle, Repeat, End}
use Rattle.long_events.specs.Lists.{long_events, start_bits, steps_of}
use Rattle.long_events.specs.Moves.{bits_after, event_by, events_from, led_by, moves_of, parts_of, repeated, times}
use Rattle.long_events.specs.Steps.{after_piece, after_tilde, count_of, first_piece, given_of, in_range, input_of, line_step, repeat_of, step_of, toggle_of, toggled_of}
use Rattle.long_events.specs.inside.Reading.{IsCounted}

-- ---- steps

-- the input of a step, if it has one, is one of these
abbrev pub IsWithin : (ℕ → Type 0) → Step → Type 0
IsWithin Of (Give event) = Of event.pin
IsWithin Of (Toggle pin times) = Of pin
IsWithin Of _ = Unit {0}

-- a step that is read: its input is one of these, and if it is a `repeat` it comes at least once
abbrev pub IsRead : (ℕ → Type 0) → Result Step EventFault → Type 0
IsRead Of (Ok step) = IsWithin Of step × IsCounted step
IsRead Of (Err fault) = Unit {0}

pub record HasPins (pins : List ℕ → Option ℕ) (Of : ℕ → Type 0) : Type 0 where
  pub of : (name : List ℕ) (place : ℕ) → pins name ≡ Some place → Of place

pin-read : (Of : ℕ → Type 0) (line : ℕ) (pin : Option ℕ) (bit : Bool) → ((place : ℕ) → pin ≡ Some place → Of place) → IsRead Of (given_of (pin_event line pin bit))
pin-read Of line (Some place) bit below = (below place refl, tt)
pin-read Of line None bit below = tt

bit-read : (Of : ℕ → Type 0) (line : ℕ) (pin : Option ℕ) (bit : Option Bool) → ((place : ℕ) → pin ≡ Some place → Of place) → IsRead Of (given_of (bit_event line pin bit))
bit-read Of line pin (Some bit) below = pin-read Of line pin bit below
bit-read Of line pin None below = tt

event-read : (Of : ℕ → Type 0) (pins : List ℕ → Option ℕ) (line : ℕ) (content : List ℕ) → HasPins pins Of → IsRead Of (given_of (event_of pins line content))
unfolding event_of
event-read Of pins line content has =
    cond_both (is_word (name_part content)) (bit_event line (pins (name_part content)) (bit_written (bit_part content))) (Err (Form line)) (λ event. IsRead Of (given_of event))
    (λ word. bit-read Of line (pins (name_part content)) (bit_written (bit_part content)) (has.of (name_part content))) (λ none. tt)

toggled-read : (Of : ℕ → Type 0) (line : ℕ) (pin times : Option ℕ) → ((place : ℕ) → pin ≡ Some place → Of place) → IsRead Of (toggled_of line pin times)
toggled-read Of line (Some place) (Some times) below = (below place refl, tt)
toggled-read Of line None (Some times) below = tt
toggled-read Of line pin None below = tt

toggle-read : (Of : ℕ → Type 0) (pins : List ℕ → Option ℕ) (line : ℕ) (name word : List ℕ) → HasPins pins Of → IsRead Of (toggle_of pins line name word)
toggle-read Of pins line name word has =
    cond_both (is_word name) (toggled_of line (pins name) (count_of word)) (Err (Form line)) (IsRead Of)
    (λ is. toggled-read Of line (pins name) (count_of word) (has.of name)) (λ none. tt)

input-read : (Of : ℕ → Type 0) (pins : List ℕ → Option ℕ) (line : ℕ) (content : List ℕ) (word : Option (List ℕ)) → HasPins pins Of → IsRead Of (input_of pins line content word)
input-read Of pins line content (Some word) has = toggle-read Of pins line (first_piece content) word has
input-read Of pins line content None has = event-read Of pins line content has

repeat-read : (Of : ℕ → Type 0) (line : ℕ) (number : Option ℕ) → IsRead Of (repeat_of line (in_range number))
repeat-read Of line None = tt
repeat-read Of line (Some number) = by_test (nat_lt 0 number) (nat_lt number (2 ^ 32)) refl
  where
    by_test : (some few : Bool) → nat_lt 0 number ≡ some → IsRead Of (repeat_of line (cond (some && few) (Some number) None))
    by_test true true is = (tt, ltb-true 0 number is)
    by_test true false is = tt
    by_test false few is = tt

pub step-read : (Of : ℕ → Type 0) (pins : List ℕ → Option ℕ) (line : ℕ) (content : List ℕ) → HasPins pins Of → IsRead Of (step_of pins line content)
unfolding step_of
step-read Of pins line content has =
    let others : Result Step EventFault = input_of pins line content (after_tilde (after_piece content)) in
    let repeats : Result Step EventFault = repeat_of line (count_of (after_piece content)) in
    cond_both (bytes_eq content (codes "end")) (Ok End) (if bytes_eq (first_piece content) (codes "repeat") then repeats else others) (IsRead Of)
    (λ is. (tt, tt))
    (λ other. cond_both (bytes_eq (first_piece content) (codes "repeat")) repeats others (IsRead Of)
    (λ is. repeat-read Of line (seed_of (after_piece content)))
    (λ none. input-read Of pins line content (after_tilde (after_piece content)) has))

-- ---- lists

rest-append : {A : Type 0} (P : A → Type 0) (some more : List A) → AllByRecursion P some → AllByRecursion P more → AllByRecursion P (some ++ more)
rest-append P [] more one other = other
rest-append P (first ∷ some) more one other = (one.0, rest-append P some more one.1 other)

rest-replicate : {A : Type 0} (P : A → Type 0) (count : ℕ) (value : A) → P value → AllByRecursion P (replicate count value)
rest-replicate P zero value is = tt
rest-replicate P (suc count) value is = (is, rest-replicate P count value is)

-- what lines say
result-within : (Of : ℕ → Type 0) (step : Result Step EventFault) → IsRead Of step → AllByRecursion (IsWithin Of) (option_to_list (result_ok step))
result-within Of (Ok step) read = (read.0, tt)
result-within Of (Err fault) read = tt

line-within : (Of : ℕ → Type 0) (pins : List ℕ → Option ℕ) (line : List ℕ) → HasPins pins Of → AllByRecursion (IsWithin Of) (line_step pins line)
line-within Of pins [] has = tt
line-within Of pins (byte ∷ bytes) has = result-within Of (step_of pins 0 (byte ∷ bytes)) (step-read Of pins 0 (byte ∷ bytes) has)

lines-within : (Of : ℕ → Type 0) (pins : List ℕ → Option ℕ) (lines : List (List ℕ)) → HasPins pins Of → AllByRecursion (IsWithin Of) (steps_of pins lines)
lines-within Of pins [] has = tt
lines-within Of pins (line ∷ lines) has =
    rest-append (IsWithin Of) (line_step pins line) (steps_of pins lines) (line-within Of pins line has) (lines-within Of pins lines has)

-- ---- moves

abbrev IsMoveWithin : (ℕ → Type 0) → Move → Type 0
IsMoveWithin Of (move.Given event) = Of event.pin
IsMoveWithin Of (move.Toggled pin) = Of pin

abbrev AreMoves : (ℕ → Type 0) → List Move → Type 0
AreMoves Of moves = AllByRecursion (IsMoveWithin Of) moves

led-within : (Of : ℕ → Type 0) (moves : List Move) (parts : List (List Move)) → AreMoves Of moves → AllByRecursion (AreMoves Of) parts → AllByRecursion (AreMoves Of) (led_by moves parts)
led-within Of moves [] one others = (one, tt)
led-within Of moves (part ∷ parts) one others = (rest-append (IsMoveWithin Of) moves part one others.0, others.1)

times-within : (Of : ℕ → Type 0) (number : ℕ) (moves : List Move) → AreMoves Of moves → AreMoves Of (times number moves)
unfolding times
times-within Of zero moves is = tt
times-within Of (suc number) moves is = rest-append (IsMoveWithin Of) moves (times number moves) is (times-within Of number moves is)

repeated-within : (Of : ℕ → Type 0) (number : ℕ) (parts : List (List Move)) → AllByRecursion (AreMoves Of) parts → AllByRecursion (AreMoves Of) (repeated number parts)
repeated-within Of number [] are = tt
repeated-within Of number (body ∷ parts) are = led-within Of (times number body) parts (times-within Of number body are.0) are.1

parts-within : (Of : ℕ → Type 0) (steps : List Step) → AllByRecursion (IsWithin Of) steps → AllByRecursion (AreMoves Of) (parts_of steps)
unfolding parts_of
parts-within Of [] are = (tt, tt)
parts-within Of (Give event ∷ steps) are = led-within Of (move.Given event ∷ []) (parts_of steps) (are.0, tt) (parts-within Of steps are.1)
parts-within Of (Toggle pin number ∷ steps) are =
    led-within Of (replicate number (move.Toggled pin)) (parts_of steps) (rest-replicate (IsMoveWithin Of) number (move.Toggled pin) are.0) (parts-within Of steps are.1)
parts-within Of (Repeat number ∷ steps) are = repeated-within Of number (parts_of steps) (parts-within Of steps are.1)
parts-within Of (End ∷ steps) are = (tt, parts-within Of steps are.1)

first-within : (Of : ℕ → Type 0) (parts : List (List Move)) → AllByRecursion (AreMoves Of) parts → AreMoves Of (get_or parts 0 [])
first-within Of [] are = tt
first-within Of (part ∷ parts) are = are.0

-- ---- events

by-within : (Of : ℕ → Type 0) (bits : List Bool) (first : Move) → IsMoveWithin Of first → Of (event_by bits first).pin
by-within Of bits (move.Given event) is = is
by-within Of bits (move.Toggled pin) is = is

events-within : (Of : ℕ → Type 0) (bits : List Bool) (moves : List Move) → AreMoves Of moves → AllByRecursion (λ (event : Event). Of event.pin) (events_from bits moves)
unfolding events_from
events-within Of bits [] are = tt
events-within Of bits (first ∷ moves) are = (by-within Of bits first are.0, events-within Of (bits_after bits (event_by bits first)) moves are.1)

pub long-within : (ports : List Port) (bytes : List ℕ) → All (λ event. event.pin < length (input_names ports)) (long_events ports bytes)
long-within ports bytes =
    let Of : ℕ → Type 0 = λ pin. pin < length (input_names ports) in
    let steps = steps_of (pin_of ports) (cut_lines bytes) in
    let has : HasPins (pin_of ports) Of = record { of = λ name place found. omega (arith, numbered-below 0 (input_names ports) name place found) } in
    All-from_recursion (λ (event : Event). Of event.pin) (long_events ports bytes)
    (events-within Of (start_bits ports) (moves_of steps) (first-within Of (parts_of steps) (parts-within Of steps (lines-within Of (pin_of ports) (cut_lines bytes) has))))

-- ---- a step that was read

pub step-counted : (pins : List ℕ → Option ℕ) (line : ℕ) (content : List ℕ) (step : Step) → Ok step ≡ step_of pins line content → IsCounted step
step-counted pins line content step is =
    let Of : ℕ → Type 0 = λ _. Unit {0} in
    let read : IsRead Of (Ok step) = subst (IsRead Of) (sym is) (step-read Of pins line content (record { of = λ name place found. tt })) in
    read.1

-- ---- inputs

-- as many inputs as ports that are no outputs
pub count_inputs : (ports : List Port) → length (filter (λ (port : Port). not port.output) ports) ≡ length (input_names ports)
count_inputs [] = refl
count_inputs (port ∷ ports) = by_kind port.output (count_inputs ports)
  where
    found : List Port
    found = filter (λ (each : Port). not each.output) ports

    by_kind : (output : Bool) → length (filter (λ (each : Port). not each.output) ports) ≡ length (input_names ports)
        → length (cond (not output) (port ∷ found) found) ≡ length (names_of ((if output then [] else (port.name, false) ∷ []) ++ flat_map input_start ports))
    by_kind true rest = rest
    by_kind false rest = ap suc rest
