-- The faults of lists of events, line by line.
use Rattle.std.proofs.Common.{◌≡◌, ◌∙◌, ℕ, ◌+◌, ◌<◌, ◌≤◌, Bool, true, false, cond, List, [], ◌∷◌, ◌++◌, Option, Some, None, fold, length, take, take_all, refl, sym, ap, ap₂, arith, below_more}
use Rattle.std.specs.Prelude.{◌&&◌, ◌==◌, get_or, if◌then◌else◌}
use Rattle.std.specs.Option.{option_map, option_to_list}
use Rattle.std.specs.Result.{result_ok}
use Rattle.std.proofs.lemmas.Bool.{eqb-false, ne_eqb}
use Rattle.std.proofs.lemmas.List.{get_or_default}
use Rattle.std.proofs.lemmas.List.Sums.{fold-append}
use Rattle.index_search.specs.Places.{last_below, or_else}
use Rattle.index_search.proofs.Places.{first_below-first, first_below-none, last_below-more}
use Rattle.text_lines.specs.Lines.{line_at}
use Rattle.vlog_semantics.proofs.Filling.{flat_map-more}
use Rattle.vlog_run.specs.declared.event.EventFault.TheVariants.{Form, Pin, Memory}
use Rattle.long_events.specs.declared.fault.LongFault.{LongFault}
use Rattle.long_events.specs.declared.fault.LongFault.TheVariants as fault
use Rattle.long_events.specs.declared.step.Step.{Step}
use Rattle.long_events.specs.declared.step.Step.TheVariants.{Give, Toggle, Repeat, End}
use Rattle.long_events.specs.Lists.{TellsLong, is_outermost, is_repeat, fault_on, level_after, level_step, line_fault, lines_fault, open_fault, steps_of}
use Rattle.long_events.specs.Steps.{line_step, step_of}

-- ---- a line

-- a line says one thing at most
short-step : (pins : List ℕ → Option ℕ) (line : List ℕ) → length (line_step pins line) ≤ 1
short-step pins [] = omega arith
short-step pins (byte ∷ bytes) = by_option (result_ok (step_of pins 0 (byte ∷ bytes)))
  where
    by_option : (step : Option Step) → length (option_to_list step) ≤ 1
    by_option None = omega arith
    by_option (Some step) = omega arith

-- whether a `repeat` that is inside no other one is the line
abbrev begins_outside : ℕ → List Step → Bool
begins_outside level steps = is_repeat steps && (level == 0)

-- if some are open after a line, but it is no `repeat` outside of all others, some were open before
level-before : (level : ℕ) (steps : List Step) → length steps ≤ 1 → begins_outside level steps ≡ false → 0 < fold level_step level steps → 0 < level
level-before level [] short outside more = more
level-before level (Give event ∷ []) short outside more = more
level-before level (Toggle pin count ∷ []) short outside more = more
level-before level (Repeat count ∷ []) short outside more = let inside : level ≡ 0 → ⊥ = eqb-false level 0 outside in omega arith
level-before level (End ∷ []) short outside more = omega (arith, more)
level-before level (first ∷ second ∷ steps) short outside more = absurd (omega (arith, short))

-- ---- lines that are read so far

pub record IsOutermost (pins : List ℕ → Option ℕ) (lines : List (List ℕ)) (count outermost : ℕ) : Type 0 where
  pub place : ℕ
  pub found : last_below count (is_outermost pins lines) ≡ Some place
  pub is : outermost ≡ place + 1

-- none of them is faulty, and so many `repeat`s are open, the outermost of which has this line
pub record AreFine (pins : List ℕ → Option ℕ) (lines : List (List ℕ)) (count level outermost : ℕ) : Type 0 where
  pub fine : (k : ℕ) → k < count → line_fault pins lines k ≡ None
  pub level_is : level ≡ level_after (steps_of pins (take count lines))
  pub outer : 0 < level → IsOutermost pins lines count outermost

pub fine-none : (pins : List ℕ → Option ℕ) (lines : List (List ℕ)) (outermost : ℕ) → AreFine pins lines 0 0 outermost
fine-none pins lines outermost = record { fine = λ k below. absurd (omega arith); level_is = refl; outer = λ open_ones. absurd (omega arith) }

-- the outermost line after a line
abbrev pub next_outermost : ℕ → ℕ → ℕ → List Step → ℕ
next_outermost line level outermost steps = if begins_outside level steps then line else outermost

outer-more : (pins : List ℕ → Option ℕ) (lines : List (List ℕ)) (count level outermost : ℕ) (line : List ℕ) → AreFine pins lines count level outermost → line_at lines count ≡ line
    → 0 < fold level_step level (line_step pins line) → IsOutermost pins lines (count + 1) (next_outermost (count + 1) level outermost (line_step pins line))
outer-more pins lines count level outermost line before at more =
    by_test (begins_outside level steps) refl
  where
    steps : List Step
    steps = line_step pins line

    here : (test : Bool) → begins_outside level (line_step pins line) ≡ test → last_below (count + 1) (is_outermost pins lines) ≡ cond test (Some count) (last_below count (is_outermost pins lines))
    here test is =
        last_below-more count (is_outermost pins lines)
        ∙ ap (λ passes. cond passes (Some count) (last_below count (is_outermost pins lines)))
        (ap₂ (λ (text : List ℕ) n. begins_outside n (line_step pins text)) at (sym before.level_is) ∙ is)

    by_test : (test : Bool) → begins_outside level (line_step pins line) ≡ test
        → IsOutermost pins lines (count + 1) (cond test (count + 1) outermost)
    by_test true is = record { place = count; found = here true is; is = refl }
    by_test false is =
        let outer = before.outer (level-before level (line_step pins line) (short-step pins line) is more) in
        record { place = outer.place; found = here false is ∙ outer.found; is = outer.is }

-- the level after one line more
pub level-more : (pins : List ℕ → Option ℕ) (lines : List (List ℕ)) (count : ℕ) (line : List ℕ) → count < length lines → line_at lines count ≡ line
    → steps_of pins (take (count + 1) lines) ≡ steps_of pins (take count lines) ++ line_step pins line
level-more pins lines count line within at =
    let here : line ≡ get_or lines count line = sym at ∙ get_or_default lines count [] line within in
    flat_map-more (line_step pins) lines count line within here

pub fine-more : (pins : List ℕ → Option ℕ) (lines : List (List ℕ)) (count level outermost next : ℕ) (line : List ℕ) → AreFine pins lines count level outermost → count < length lines
    → line_at lines count ≡ line → fault_on pins (count + 1) level line ≡ None → next ≡ level_after (steps_of pins (take count lines) ++ line_step pins line)
    → AreFine pins lines (count + 1) next (next_outermost (count + 1) level outermost (line_step pins line))
fine-more pins lines count level outermost next line before within at none is =
    let steps = line_step pins line in
    let goes : next ≡ fold level_step level steps =
    is ∙ fold-append level_step 0 (steps_of pins (take count lines)) steps ∙ ap (λ n. fold level_step n steps) (sym before.level_is) in
    record {
      fine = below_more (λ k. line_fault pins lines k ≡ None) count before.fine
          (ap₂ (λ n (text : List ℕ). fault_on pins (count + 1) n text) (sym before.level_is) at ∙ none);
      level_is = is ∙ ap level_after (sym (level-more pins lines count line within at));
      outer = λ open_ones. outer-more pins lines count level outermost line before at (omega (arith, goes, open_ones));
    }

-- ---- all lines

first-fine : (pins : List ℕ → Option ℕ) (lines : List (List ℕ)) (count level outermost : ℕ) → AreFine pins lines count level outermost → count ≡ length lines
    → lines_fault pins lines ≡ open_fault pins lines
unfolding lines_fault
first-fine pins lines count level outermost all is =
    ap (λ (first : Option LongFault). or_else first (open_fault pins lines)) (first_below-none (length lines) (line_fault pins lines) (λ k below. all.fine k (omega arith)))

level-all : (pins : List ℕ → Option ℕ) (lines : List (List ℕ)) (count level outermost : ℕ) → AreFine pins lines count level outermost → count ≡ length lines
    → level_after (steps_of pins lines) ≡ level
level-all pins lines count level outermost all is = ap (λ (some : List (List ℕ)). level_after (steps_of pins some)) (sym (take_all count lines (omega arith))) ∙ sym all.level_is

pub fine-all : (pins : List ℕ → Option ℕ) (lines : List (List ℕ)) (count outermost : ℕ) → AreFine pins lines count 0 outermost → count ≡ length lines → lines_fault pins lines ≡ None
fine-all pins lines count outermost all is =
    first-fine pins lines count 0 outermost all is
    ∙ ap (λ level. if level == 0 then None else option_map (λ place. fault.Repeat (place + 1)) (last_below (length lines) (is_outermost pins lines)))
    (level-all pins lines count 0 outermost all is)

pub open-all : (pins : List ℕ → Option ℕ) (lines : List (List ℕ)) (count level outermost : ℕ) → AreFine pins lines count level outermost → count ≡ length lines → 0 < level
    → lines_fault pins lines ≡ Some (fault.Repeat outermost)
open-all pins lines count level outermost all is some =
    let outer = all.outer some in
    let none : level ≡ 0 → ⊥ = λ zero_open. omega arith in
    let test : (level_after (steps_of pins lines) == 0) ≡ false = ap (λ n. n == 0) (level-all pins lines count level outermost all is) ∙ ne_eqb level 0 none in
    first-fine pins lines count level outermost all is
    ∙ ap (λ closed. if closed then None else option_map (λ place. fault.Repeat (place + 1)) (last_below (length lines) (is_outermost pins lines))) test
    ∙ ap (λ n. option_map (λ place. fault.Repeat (place + 1)) (last_below n (is_outermost pins lines))) (sym is)
    ∙ ap (option_map (λ place. fault.Repeat (place + 1))) outer.found
    ∙ ap (λ n. Some (fault.Repeat n)) (sym outer.is)

pub faulty-first : (pins : List ℕ → Option ℕ) (lines : List (List ℕ)) (count level outermost : ℕ) (line : List ℕ) (told : LongFault) → AreFine pins lines count level outermost
    → count < length lines → line_at lines count ≡ line → fault_on pins (count + 1) level line ≡ Some told → lines_fault pins lines ≡ Some told
unfolding lines_fault
faulty-first pins lines count level outermost line told before within at faulty =
    ap (λ (first : Option LongFault). or_else first (open_fault pins lines))
    (first_below-first (length lines) count (line_fault pins lines) told within before.fine
    (ap₂ (λ n (text : List ℕ). fault_on pins (count + 1) n text) (sym before.level_is) at ∙ faulty))

-- a refusal of the line is one of the text
pub told-first : (pins : List ℕ → Option ℕ) (lines : List (List ℕ)) (count level outermost : ℕ) (line : List ℕ) (told : LongFault) → AreFine pins lines count level outermost
    → count < length lines → line_at lines count ≡ line → TellsLong (fault_on pins (count + 1) level line) told → TellsLong (lines_fault pins lines) told
told-first pins lines count level outermost line (fault.Event (Memory e)) before within at tells = tt
told-first pins lines count level outermost line (fault.Event (Form n)) before within at tells = faulty-first pins lines count level outermost line (fault.Event (Form n)) before within at tells
told-first pins lines count level outermost line (fault.Event (Pin n)) before within at tells = faulty-first pins lines count level outermost line (fault.Event (Pin n)) before within at tells
told-first pins lines count level outermost line (fault.Repeat n) before within at tells = faulty-first pins lines count level outermost line (fault.Repeat n) before within at tells
told-first pins lines count level outermost line fault.Long before within at tells = faulty-first pins lines count level outermost line fault.Long before within at tells

-- a refusal of the lines is one of the text
pub told-lines : (lines counted : Option LongFault) (told : LongFault) → TellsLong lines told → TellsLong (or_else lines counted) told
told-lines lines counted (fault.Event (Memory e)) tells = tt
told-lines lines counted (fault.Event (Form n)) tells = ap (λ (first : Option LongFault). or_else first counted) tells
told-lines lines counted (fault.Event (Pin n)) tells = ap (λ (first : Option LongFault). or_else first counted) tells
told-lines lines counted (fault.Repeat n) tells = ap (λ (first : Option LongFault). or_else first counted) tells
told-lines lines counted fault.Long tells = ap (λ (first : Option LongFault). or_else first counted) tells

-- if no line is faulty, a refusal of the count is one of the text
pub told-count : (lines counted : Option LongFault) (told : LongFault) → lines ≡ None → counted ≡ Some told → TellsLong (or_else lines counted) told
told-count lines counted told none is =
    by_case told (ap (λ (first : Option LongFault). or_else first counted) none ∙ is)
  where
    by_case : (told : LongFault) → or_else lines counted ≡ Some told → TellsLong (or_else lines counted) told
    by_case (fault.Event (Memory e)) same = tt
    by_case (fault.Event (Form n)) same = same
    by_case (fault.Event (Pin n)) same = same
    by_case (fault.Repeat n) same = same
    by_case fault.Long same = same
