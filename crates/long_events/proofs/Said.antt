-- What a line says, and what is wrong with it.
use Rattle.std.proofs.Common.{◌≡◌, ◌∙◌, ℕ, ◌<◌, Bool, true, false, cond, List, [], ◌∷◌, Option, Some, None, Result, Ok, Err, length, refl, sym, ap, arith}
use Rattle.std.specs.Prelude.{bytes_eq, codes}
use Rattle.std.specs.Option.{option_map, option_to_list}
use Rattle.std.specs.Result.{result_err, result_ok}
use Rattle.index_search.specs.Places.{or_else}
use Rattle.vlog_module.specs.Names.{is_word}
use Rattle.vlog_semantics.specs.declared.event.Event.{Event}
use Rattle.vlog_run.specs.declared.event.EventFault.{EventFault}
use Rattle.vlog_run.specs.declared.event.EventFault.TheVariants.{Form, Pin, Memory}
use Rattle.vlog_run.specs.Events.{event_of}
use Rattle.vlog_run.proofs.EventLines.{event-anywhere}
use Rattle.long_events.specs.declared.fault.LongFault.{LongFault}
use Rattle.long_events.specs.declared.fault.LongFault.TheVariants as fault
use Rattle.long_events.specs.declared.step.Step.{Step}
use Rattle.long_events.specs.declared.step.Step.TheVariants.{Give, End}
use Rattle.long_events.specs.Lists.{TellsLong, fault_on, level_fault}
use Rattle.long_events.specs.Steps.{after_piece, after_tilde, count_of, first_piece, given_of, input_of, line_step, own_fault, repeat_of, step_of, toggled_of}

-- ---- what a line says is the same wherever it stands

by-test : (test : Bool) (one two other more : Result Step EventFault) → result_ok one ≡ result_ok other → result_ok two ≡ result_ok more → result_ok (cond test one two) ≡ result_ok (cond test other more)
by-test true one two other more first second = first
by-test false one two other more first second = second

repeat-anywhere : (a b : ℕ) (count : Option ℕ) → result_ok (repeat_of a count) ≡ result_ok (repeat_of b count)
repeat-anywhere a b (Some count) = refl
repeat-anywhere a b None = refl

toggled-anywhere : (a b : ℕ) (pin count : Option ℕ) → result_ok (toggled_of a pin count) ≡ result_ok (toggled_of b pin count)
toggled-anywhere a b (Some pin) (Some count) = refl
toggled-anywhere a b None (Some count) = refl
toggled-anywhere a b pin None = refl

given-is : (read : Result Event EventFault) → result_ok (given_of read) ≡ option_map (λ event. Give event) (result_ok read)
given-is (Ok event) = refl
given-is (Err told) = refl

input-anywhere : (pins : List ℕ → Option ℕ) (a b : ℕ) (content : List ℕ) (word : Option (List ℕ)) → result_ok (input_of pins a content word) ≡ result_ok (input_of pins b content word)
input-anywhere pins a b content (Some word) =
    by-test (is_word (first_piece content)) (toggled_of a (pins (first_piece content)) (count_of word)) (Err (Form a)) (toggled_of b (pins (first_piece content)) (count_of word)) (Err (Form b))
    (toggled-anywhere a b (pins (first_piece content)) (count_of word)) refl
input-anywhere pins a b content None =
    given-is (event_of pins a content) ∙ ap (option_map (λ event. Give event)) (event-anywhere pins a b content) ∙ sym (given-is (event_of pins b content))

step-anywhere : (pins : List ℕ → Option ℕ) (a b : ℕ) (content : List ℕ) → result_ok (step_of pins a content) ≡ result_ok (step_of pins b content)
unfolding step_of
step-anywhere pins a b content =
    let count = count_of (after_piece content) in
    let word = after_tilde (after_piece content) in
    by-test (bytes_eq content (codes "end")) (Ok End) (cond (bytes_eq (first_piece content) (codes "repeat")) (repeat_of a count) (input_of pins a content word)) (Ok End)
    (cond (bytes_eq (first_piece content) (codes "repeat")) (repeat_of b count) (input_of pins b content word)) refl
    (by-test (bytes_eq (first_piece content) (codes "repeat")) (repeat_of a count) (input_of pins a content word) (repeat_of b count) (input_of pins b content word)
    (repeat-anywhere a b count) (input-anywhere pins a b content word))

pub line-says : (pins : List ℕ → Option ℕ) (line : ℕ) (content : List ℕ) (step : Step) → 0 < length content → Ok step ≡ step_of pins line content → line_step pins content ≡ step ∷ []
line-says pins line [] step some is = absurd (omega arith)
line-says pins line (byte ∷ bytes) step some is = ap option_to_list (step-anywhere pins 0 line (byte ∷ bytes) ∙ ap result_ok (sym is))

-- ---- an empty line

pub line-empty : (pins : List ℕ → Option ℕ) (content : List ℕ) → length content ≡ 0 → line_step pins content ≡ []
line-empty pins [] none = refl
line-empty pins (byte ∷ bytes) none = absurd (omega (arith, none))

pub fault-empty : (pins : List ℕ → Option ℕ) (line level : ℕ) (content : List ℕ) → length content ≡ 0 → fault_on pins line level content ≡ None
fault-empty pins line level [] none = refl
fault-empty pins line level (byte ∷ bytes) none = absurd (omega (arith, none))

-- ---- what is wrong with a line

own-fine : (pins : List ℕ → Option ℕ) (line : ℕ) (content : List ℕ) (step : Step) → Ok step ≡ step_of pins line content → own_fault pins line content ≡ None
own-fine pins line [] step is = refl
own-fine pins line (byte ∷ bytes) step is = ap result_err (sym is)

own-faulty : (pins : List ℕ → Option ℕ) (line : ℕ) (content : List ℕ) (told : EventFault) → 0 < length content → Err told ≡ step_of pins line content → own_fault pins line content ≡ Some told
own-faulty pins line [] told some is = absurd (omega arith)
own-faulty pins line (byte ∷ bytes) told some is = ap result_err (sym is)

-- a line that says something has the fault of its level
pub fault-said : (pins : List ℕ → Option ℕ) (line level : ℕ) (content : List ℕ) (step : Step) → 0 < length content → Ok step ≡ step_of pins line content
    → fault_on pins line level content ≡ level_fault line level (step ∷ [])
fault-said pins line level content step some is =
    ap (λ (own : Option EventFault). or_else (option_map fault.Event own) (level_fault line level (line_step pins content))) (own-fine pins line content step is)
    ∙ ap (level_fault line level) (line-says pins line content step some is)

-- and any other line its own
pub fault-own : (pins : List ℕ → Option ℕ) (line level : ℕ) (content : List ℕ) (told : EventFault) → 0 < length content → Err told ≡ step_of pins line content
    → fault_on pins line level content ≡ Some (fault.Event told)
fault-own pins line level content told some is =
    ap (λ (own : Option EventFault). or_else (option_map fault.Event own) (level_fault line level (line_step pins content))) (own-faulty pins line content told some is)

pub tells-event : (found : Option LongFault) (told : EventFault) → found ≡ Some (fault.Event told) → TellsLong found (fault.Event told)
tells-event found (Memory e) is = tt
tells-event found (Form line) is = is
tells-event found (Pin line) is = is
