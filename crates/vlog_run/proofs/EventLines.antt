-- Lists of events, line by line.
use Rattle.std.proofs.Common.{◌≡◌, ℕ, ◌+◌, ◌<◌, Bool, true, false, cond, List, [], ◌∷◌, ◌++◌, Option, Some, None, Ok, Err, flat_map, length, get_or, map, take, refl, sym, ap, ◌∙◌, arith, below_more}
use Rattle.std.specs.Prelude.{All, bytes_eq}
use Rattle.std.specs.Option.{option_to_list}
use Rattle.std.specs.Result.{result_err, result_ok}
use Rattle.std.proofs.lemmas.List.{get_or_default}
use Rattle.vlog_semantics.proofs.Filling.{flat_map-more}
use Rattle.index_search.proofs.Places.{first_below-first, first_below-none}
use Rattle.text_lines.specs.Lines.{line_at, lines_of, trimmed}
use Rattle.std.proofs.lemmas.List.Elements.{All-append, All-cons, All-nil}
use Rattle.vlog_module.specs.declared.modules.Port.{Port}
use Rattle.vlog_module.specs.Maps.{value_in}
use Rattle.vlog_module.specs.Names.{is_word}
use Rattle.vlog_semantics.specs.Numbered.{numbered}
use Rattle.vlog_semantics.specs.Run.{input_names, pin_of}
use Rattle.vlog_semantics.specs.declared.event.Event.{Event}
use Rattle.vlog_run.specs.declared.event.EventFault.{EventFault}
use Rattle.vlog_run.specs.declared.event.EventFault.TheVariants.{Form, Pin, Memory}
use Rattle.vlog_run.specs.Events.{TellsEvent, bit_event, bit_part, bit_written, cut_lines, event_of, events_of, first_fault, line_event, line_fault, name_part, pin_event}

-- ---- lines

-- the first line, without the spaces and tabs at its end, and the lines after it
pub one-line : (text first content rest : List ℕ) → lines_of text ≡ first ∷ lines_of rest → content ≡ trimmed first → cut_lines text ≡ content ∷ cut_lines rest
one-line text first content rest lines is = ap (map trimmed) lines ∙ ap (λ line. line ∷ cut_lines rest) (sym is)

-- ---- a line

pin-anywhere : (a b : ℕ) (pin : Option ℕ) (bit : Bool) → result_ok (pin_event a pin bit) ≡ result_ok (pin_event b pin bit)
pin-anywhere a b (Some pin) bit = refl
pin-anywhere a b None bit = refl

bit-anywhere : (a b : ℕ) (pin : Option ℕ) (bit : Option Bool) → result_ok (bit_event a pin bit) ≡ result_ok (bit_event b pin bit)
bit-anywhere a b pin (Some bit) = pin-anywhere a b pin bit
bit-anywhere a b pin None = refl

-- the event of a line is the same wherever the line stands
pub event-anywhere : (pins : List ℕ → Option ℕ) (a b : ℕ) (content : List ℕ) → result_ok (event_of pins a content) ≡ result_ok (event_of pins b content)
unfolding event_of
event-anywhere pins a b content =
    elim (is_word (name_part content)) as (λ named. result_ok (cond named (bit_event a (pins (name_part content)) (bit_written (bit_part content))) (Err (Form a)))
    ≡ result_ok (cond named (bit_event b (pins (name_part content)) (bit_written (bit_part content))) (Err (Form b)))) [
      | true ↦ bit-anywhere a b (pins (name_part content)) (bit_written (bit_part content))
      | false ↦ refl
    ]

pub line-event : (pins : List ℕ → Option ℕ) (line : ℕ) (content : List ℕ) (event : Event) → 0 < length content → Ok event ≡ event_of pins line content → line_event pins content ≡ event ∷ []
line-event pins line [] event some is = absurd (omega arith)
line-event pins line (byte ∷ bytes) event some is =
    ap option_to_list (event-anywhere pins 0 line (byte ∷ bytes) ∙ ap result_ok (sym is))

pub line-fine : (pins : List ℕ → Option ℕ) (line : ℕ) (content : List ℕ) (event : Event) → Ok event ≡ event_of pins line content → line_fault pins line content ≡ None
line-fine pins line [] event is = refl
line-fine pins line (byte ∷ bytes) event is = ap result_err (sym is)

pub line-faulty : (pins : List ℕ → Option ℕ) (line : ℕ) (content : List ℕ) (fault : EventFault) → 0 < length content → Err fault ≡ event_of pins line content → line_fault pins line content ≡ Some fault
line-faulty pins line [] fault some is = absurd (omega arith)
line-faulty pins line (byte ∷ bytes) fault some is = ap result_err (sym is)

-- ---- all lines

pub record AreFine (pins : List ℕ → Option ℕ) (lines : List (List ℕ)) (count : ℕ) : Type 0 where
  pub fine : (k : ℕ) → k < count → line_fault pins (k + 1) (line_at lines k) ≡ None

pub fine-none : (pins : List ℕ → Option ℕ) (lines : List (List ℕ)) → AreFine pins lines 0
fine-none pins lines = record { fine = λ k below. absurd (omega arith) }

pub fine-more : (pins : List ℕ → Option ℕ) (lines : List (List ℕ)) (count : ℕ) (line : List ℕ) → AreFine pins lines count → line_at lines count ≡ line
    → line_fault pins (count + 1) line ≡ None → AreFine pins lines (count + 1)
fine-more pins lines count line before at fine = record {
  fine = below_more (λ k. line_fault pins (k + 1) (line_at lines k) ≡ None) count before.fine (ap (line_fault pins (count + 1)) at ∙ fine);
}

pub fine-all : (pins : List ℕ → Option ℕ) (lines : List (List ℕ)) (count : ℕ) → AreFine pins lines count → count ≡ length lines → first_fault pins lines ≡ None
unfolding first_fault
fine-all pins lines count before all = first_below-none (length lines) (λ place. line_fault pins (place + 1) (line_at lines place)) (λ k below. before.fine k (omega arith))

pub faulty-first : (pins : List ℕ → Option ℕ) (lines : List (List ℕ)) (count : ℕ) (line : List ℕ) (fault : EventFault) → AreFine pins lines count → count < length lines → line_at lines count ≡ line
    → line_fault pins (count + 1) line ≡ Some fault → first_fault pins lines ≡ Some fault
unfolding first_fault
faulty-first pins lines count line fault before within at faulty =
    first_below-first (length lines) count (λ place. line_fault pins (place + 1) (line_at lines place)) fault within before.fine (ap (line_fault pins (count + 1)) at ∙ faulty)

-- a refusal of the line is one of the text
pub told-first : (pins : List ℕ → Option ℕ) (lines : List (List ℕ)) (count : ℕ) (line : List ℕ) (told : EventFault) → AreFine pins lines count → count < length lines → line_at lines count ≡ line
    → TellsEvent (line_fault pins (count + 1) line) told → TellsEvent (first_fault pins lines) told
told-first pins lines count line (Memory e) before within at tells = tt
told-first pins lines count line (Form n) before within at tells = faulty-first pins lines count line (Form n) before within at tells
told-first pins lines count line (Pin n) before within at tells = faulty-first pins lines count line (Pin n) before within at tells

-- one line more
pub lines-more : (pins : List ℕ → Option ℕ) (lines : List (List ℕ)) (count : ℕ) (line : List ℕ) (events more : List Event) → count < length lines → line_at lines count ≡ line
    → events ≡ flat_map (line_event pins) (take count lines) → more ≡ events ++ line_event pins line → more ≡ flat_map (line_event pins) (take (count + 1) lines)
lines-more pins lines count line events more within at so_far pushed =
    let here : line ≡ get_or lines count line = sym at ∙ get_or_default lines count [] line within in
    pushed ∙ ap (λ list. list ++ line_event pins line) so_far ∙ sym (flat_map-more (line_event pins) lines count line within here)

-- ---- the inputs of events

some-same : (x y : ℕ) → Some x ≡ Some y → x ≡ y
some-same x y same = cc

-- a numbered name has a number below the end
pub numbered-below : (from : ℕ) (names : List (List ℕ)) (name : List ℕ) (place : ℕ) → value_in (numbered from names) name ≡ Some place → place < from + length names
numbered-below from [] name place found = absurd cc
numbered-below from (first ∷ names) name place found =
    let by_test : (b : Bool) → cond b (Some from) (value_in (numbered (from + 1) names) name) ≡ Some place → place < from + length (first ∷ names) =
    λ b. elim b as (λ v. cond v (Some from) (value_in (numbered (from + 1) names) name) ≡ Some place → place < from + length (first ∷ names)) [
      | true ↦ λ here. let same : from ≡ place = some-same from place here in omega arith
      | false ↦ λ later. let below : place < (from + 1) + length names = numbered-below (from + 1) names name place later in omega arith
    ] in
    by_test (bytes_eq first name) found

abbrev IsWithin : ℕ → Event → Type 0
IsWithin count event = event.pin < count

pin-within : (count line : ℕ) (pin : Option ℕ) (bit : Bool) → ((place : ℕ) → pin ≡ Some place → place < count) → All (IsWithin count) (option_to_list (result_ok (pin_event line pin bit)))
pin-within count line (Some pin) bit below = All-cons (IsWithin count) (record { pin = pin; bit = bit }) [] (below pin refl) (All-nil (IsWithin count))
pin-within count line None bit below = All-nil (IsWithin count)

bit-within : (count line : ℕ) (pin : Option ℕ) (bit : Option Bool) → ((place : ℕ) → pin ≡ Some place → place < count) → All (IsWithin count) (option_to_list (result_ok (bit_event line pin bit)))
bit-within count line pin (Some bit) below = pin-within count line pin bit below
bit-within count line pin None below = All-nil (IsWithin count)

line-within : (count : ℕ) (pins : List ℕ → Option ℕ) (content : List ℕ) → ((name : List ℕ) (place : ℕ) → pins name ≡ Some place → place < count) → All (IsWithin count) (line_event pins content)
unfolding event_of
line-within count pins [] below = All-nil (IsWithin count)
line-within count pins (byte ∷ bytes) below =
    let content : List ℕ = byte ∷ bytes in
    elim (is_word (name_part content)) as (λ named. All (IsWithin count) (option_to_list (result_ok (cond named (bit_event 0 (pins (name_part content)) (bit_written (bit_part content))) (Err (Form 0)))))) [
      | true ↦ bit-within count 0 (pins (name_part content)) (bit_written (bit_part content)) (below (name_part content))
      | false ↦ All-nil (IsWithin count)
    ]

lines-within : (count : ℕ) (pins : List ℕ → Option ℕ) (lines : List (List ℕ)) → ((name : List ℕ) (place : ℕ) → pins name ≡ Some place → place < count) → All (IsWithin count) (flat_map (line_event pins) lines)
lines-within count pins [] below = All-nil (IsWithin count)
lines-within count pins (line ∷ lines) below = All-append (IsWithin count) (line_event pins line) (flat_map (line_event pins) lines) (line-within count pins line below) (lines-within count pins lines below)

-- events that were read name inputs
pub events-within : (ports : List Port) (bytes : List ℕ) → All (λ event. event.pin < length (input_names ports)) (events_of ports bytes)
events-within ports bytes = lines-within (length (input_names ports)) (pin_of ports) (cut_lines bytes) (λ name place found. omega (arith, numbered-below 0 (input_names ports) name place found))
