-- Plain lists of events are lists of the long form.
use Rattle.std.proofs.Common.{◌≡◌, ◌∙◌, ℕ, suc, ◌+◌, ◌-◌, ◌<◌, ◌≤◌, ◌^◌, Bool, true, false, cond, List, [], ◌∷◌, ◌++◌, Option, Some, None, Result, Ok, Err, flat_map, length, map, refl, sym, ap, arith}
use Rattle.std.specs.Prelude.{codes, ◌==◌, ◌&&◌}
use Rattle.std.specs.Option.{option_map, option_to_list}
use Rattle.std.specs.Result.{result_err, result_ok}
use Rattle.index_search.specs.Places.{first_below, last_below, or_else}
use Rattle.index_search.proofs.Found.{first_below-clear}
use Rattle.index_search.proofs.Places.{first_below-none}
use Rattle.std.proofs.lemmas.Bool.{lt-ltb}
use Rattle.std.proofs.lemmas.List.{length-append, length-map}
use Rattle.text_lines.specs.Lines.{is_at_lf, line_at, lines_of, trimmed, with_byte}
use Rattle.vlog_module.specs.declared.modules.Port.{Port}
use Rattle.vlog_semantics.specs.declared.event.Event.{Event}
use Rattle.vlog_semantics.specs.Run.{pin_of}
use Rattle.vlog_run.specs.declared.event.EventFault.{EventFault}
use Rattle.vlog_run.specs.Events.{cut_lines, event_of, events_of, first_fault, line_event, line_fault}
use Rattle.vlog_run.proofs.EventLines.{event-anywhere}
use Rattle.long_events.specs.declared.fault.LongFault.{LongFault}
use Rattle.long_events.specs.declared.fault.LongFault.TheVariants as fault
use Rattle.long_events.specs.declared.step.Step.{Step}
use Rattle.long_events.specs.declared.step.Step.TheVariants.{Give}
use Rattle.long_events.specs.declared.moves.Move.TheVariants as move
use Rattle.long_events.specs.Lists.{count_fault, start_bits, level_after, level_before, level_fault, level_step, fault_on, lines_fault, open_fault, is_outermost, steps_of}
use Rattle.long_events.specs.Lists as list
use Rattle.long_events.specs.Moves.{events_from, moves_of}
use Rattle.long_events.specs.Steps.{line_step, own_fault}
use Rattle.long_events.specs.Plain.{IsPlain, StandsAlike}
use Rattle.long_events.proofs.Given.{list-events, list-moves}
use Rattle.long_events.proofs.PlainLines.{step-given}

abbrev given : List Event → List Step
given events = map (λ event. Give event) events

-- ---- a line

-- a line without a fault is an event
record IsEvent (pins : List ℕ → Option ℕ) (line : ℕ) (content : List ℕ) : Type 0 where
  event : Event
  is : event_of pins line content ≡ Ok event

fine-event : (pins : List ℕ → Option ℕ) (line : ℕ) (content : List ℕ) → result_err (event_of pins line content) ≡ None → IsEvent pins line content
fine-event pins line content fine = by_result (event_of pins line content) refl
  where
    by_result : (read : Result Event EventFault) → event_of pins line content ≡ read → IsEvent pins line content
    by_result (Ok event) is = record { event = event; is = is }
    by_result (Err told) is =
        let wrong : Some told ≡ None = sym (ap result_err is) ∙ fine in
        absurd cc

-- it is one wherever it stands
moved-event : (pins : List ℕ → Option ℕ) (a b : ℕ) (content : List ℕ) (event : Event) → event_of pins a content ≡ Ok event → event_of pins b content ≡ Ok event
moved-event pins a b content event is = by_result (event_of pins b content) refl (event-anywhere pins b a content ∙ ap result_ok is)
  where
    by_result : (read : Result Event EventFault) → event_of pins b content ≡ read → result_ok (event_of pins b content) ≡ Some event → event_of pins b content ≡ Ok event
    by_result (Ok other) is some =
        let same : Some other ≡ Some event = sym (ap result_ok is) ∙ some in
        let one : other ≡ event = cc in
        is ∙ ap (λ (found : Event). Ok found) one
    by_result (Err told) is some =
        let wrong : None ≡ Some event = sym (ap result_ok is) ∙ some in
        absurd cc

-- a line without a fault says its event
line-given : (pins : List ℕ → Option ℕ) (line : ℕ) (content : List ℕ) → pins (codes "repeat") ≡ None → line_fault pins line content ≡ None
    → line_step pins content ≡ given (line_event pins content)
line-given pins line [] unnamed fine = refl
line-given pins line (byte ∷ bytes) unnamed fine =
    let read = fine-event pins line (byte ∷ bytes) fine in
    let here = moved-event pins line 0 (byte ∷ bytes) read.event read.is in
    ap (λ (step : Result Step EventFault). option_to_list (result_ok step)) (step-given pins 0 (byte ∷ bytes) read.event unnamed here)
    ∙ sym (ap (λ (found : Result Event EventFault). given (option_to_list (result_ok found))) here)

own-none : (pins : List ℕ → Option ℕ) (line : ℕ) (content : List ℕ) → pins (codes "repeat") ≡ None → line_fault pins line content ≡ None → own_fault pins line content ≡ None
own-none pins line [] unnamed fine = refl
own-none pins line (byte ∷ bytes) unnamed fine =
    let read = fine-event pins line (byte ∷ bytes) fine in
    ap (λ (step : Result Step EventFault). result_err step) (step-given pins line (byte ∷ bytes) read.event unnamed read.is)

level-none : (line level : ℕ) (events : List Event) → level_fault line level (given events) ≡ None
level-none line level [] = refl
level-none line level (event ∷ events) = refl

fault-none : (pins : List ℕ → Option ℕ) (line level : ℕ) (content : List ℕ) → pins (codes "repeat") ≡ None → line_fault pins line content ≡ None → fault_on pins line level content ≡ None
fault-none pins line level content unnamed fine =
    ap (λ (own : Option EventFault). or_else (option_map fault.Event own) (level_fault line level (line_step pins content))) (own-none pins line content unnamed fine)
    ∙ ap (level_fault line level) (line-given pins line content unnamed fine) ∙ level-none line level (line_event pins content)

-- ---- all lines

given-append : (one other : List Event) → given (one ++ other) ≡ given one ++ given other
given-append [] other = refl
given-append (event ∷ events) other = ap (λ (rest : List Step). Give event ∷ rest) (given-append events other)

lines-given : (pins : List ℕ → Option ℕ) (number : ℕ → ℕ) (lines : List (List ℕ)) → pins (codes "repeat") ≡ None
    → ((k : ℕ) → k < length lines → line_fault pins (number k) (line_at lines k) ≡ None) → steps_of pins lines ≡ given (flat_map (line_event pins) lines)
lines-given pins number [] unnamed fine = refl
lines-given pins number (line ∷ lines) unnamed fine =
    ap (λ (rest : List Step). line_step pins line ++ rest) (lines-given pins (λ k. number (suc k)) lines unnamed (λ k lt. fine (suc k) (omega (arith, lt))))
    ∙ ap (λ (steps : List Step). steps ++ given (flat_map (line_event pins) lines)) (line-given pins (number 0) line unnamed (fine 0 (omega arith)))
    ∙ sym (given-append (line_event pins line) (flat_map (line_event pins) lines))

level-given : (events : List Event) → level_after (given events) ≡ 0
level-given [] = refl
level-given (event ∷ events) = level-given events

-- ---- how many there are

few-at : (found : Option Event) → length (option_to_list found) ≤ 1
few-at (Some event) = omega arith
few-at None = omega arith

few-said : (pins : List ℕ → Option ℕ) (content : List ℕ) → length (line_event pins content) ≤ 1
few-said pins [] = omega arith
few-said pins (byte ∷ bytes) = few-at (result_ok (event_of pins 0 (byte ∷ bytes)))

few-events : (pins : List ℕ → Option ℕ) (lines : List (List ℕ)) → length (flat_map (line_event pins) lines) ≤ length lines
few-events pins [] = omega arith
few-events pins (line ∷ lines) =
    omega (arith, length-append (line_event pins line) (flat_map (line_event pins) lines), few-said pins line, few-events pins lines)

few-with : (byte : ℕ) (pieces : List (List ℕ)) → length (with_byte byte pieces) ≤ length pieces + 1
few-with byte [] = omega arith
few-with byte (piece ∷ pieces) = omega arith

few-lines : (bytes : List ℕ) → length (lines_of bytes) ≤ length bytes
unfolding lines_of
few-lines [] = omega arith
few-lines (byte ∷ bytes) = by_test (few-lines bytes) (byte == 10) ((byte == 13) && is_at_lf bytes)
  where
    by_test : length (lines_of bytes) ≤ length bytes → (ends skips : Bool) → length (cond ends ([] ∷ lines_of bytes) (cond skips (lines_of bytes) (with_byte byte (lines_of bytes)))) ≤ length (byte ∷ bytes)
    by_test others true skips = omega (arith, others)
    by_test others false true = omega (arith, others)
    by_test others false false = omega (arith, others, few-with byte (lines_of bytes))

-- ---- the law

pub extends-plain : (ports : List Port) (bytes : List ℕ) → IsPlain ports bytes → StandsAlike ports bytes
unfolding first_fault lines_fault count_fault
extends-plain ports bytes is = record {
  accepted = ap (λ (told : Option LongFault). or_else told (count_fault (moves_of (steps_of pins lines)))) none ∙ ap count_fault moves ∙ counted;
  same = ap (events_from (start_bits ports)) moves ∙ list-events (start_bits ports) events;
}
  where
    pins : List ℕ → Option ℕ
    pins = pin_of ports

    lines : List (List ℕ)
    lines = cut_lines bytes

    events : List Event
    events = events_of ports bytes

    fine : (k : ℕ) → k < length lines → line_fault pins (k + 1) (line_at lines k) ≡ None
    fine k lt = first_below-clear (length lines) k (λ place. line_fault pins (place + 1) (line_at lines place)) is.faultless lt

    steps : steps_of pins lines ≡ given events
    steps = lines-given pins (λ k. k + 1) lines is.unnamed fine

    first : first_below (length lines) (list.line_fault pins lines) ≡ None
    first = first_below-none (length lines) (list.line_fault pins lines) (λ k lt. fault-none pins (k + 1) (level_before pins lines k) (line_at lines k) is.unnamed (fine k lt))

    closed : open_fault pins lines ≡ None
    closed =
        ap (λ (level : ℕ). cond (level == 0) None (option_map (λ place. fault.Repeat (place + 1)) (last_below (length lines) (is_outermost pins lines))))
        (ap level_after steps ∙ level-given events)

    none : lines_fault pins lines ≡ None
    none = ap (λ (told : Option LongFault). or_else told (open_fault pins lines)) first ∙ closed

    moves : moves_of (steps_of pins lines) ≡ map (λ event. move.Given event) events
    moves = ap moves_of steps ∙ list-moves events

    few : length (map (λ (event : Event). move.Given event) events) < 2 ^ 64 - 1
    few =
        omega (arith, length-map events (λ (event : Event). move.Given event), few-events pins lines, length-map (lines_of bytes) trimmed, few-lines bytes, is.short)

    counted : count_fault (map (λ event. move.Given event) events) ≡ None
    counted = ap (λ (fits : Bool). cond fits None (Some fault.Long)) (lt-ltb (length (map (λ (event : Event). move.Given event) events)) (2 ^ 64 - 1) few)
