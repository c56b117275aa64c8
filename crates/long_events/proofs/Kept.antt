-- What is kept of steps that are read.
use Rattle.std.proofs.Common.{◌≡◌, ◌∙◌, ℕ, zero, suc, ◌+◌, ◌-◌, ◌<◌, ◌≤◌, Bool, true, false, cond, List, [], ◌∷◌, ◌++◌, Option, Some, None, drop, get_or, length, replicate, take, refl, subst, sym, ap, length-drop, append_assoc, append-nil, arith}
use Rattle.std.specs.Prelude.{◌&&◌, nat_lt, option_and_then}
use Rattle.std.proofs.lemmas.Bool.{and_from, cond_both, eq-eqb, lt-ltb}
use Rattle.std.proofs.lemmas.List.{take-append-drop}
use Rattle.std.proofs.lemmas.List.Sums.{fold-append}
use Rattle.vlog_semantics.specs.declared.event.Event.{Event}
use Rattle.long_events.specs.declared.moves.Move.{Move}
use Rattle.long_events.specs.declared.moves.Move.TheVariants as move
use Rattle.long_events.specs.declared.step.Step.{Step}
use Rattle.long_events.specs.declared.step.Step.TheVariants.{Give, Toggle, Repeat, End}
use Rattle.long_events.specs.Lists.{is_repeat, level_after, level_step}
use Rattle.long_events.specs.Moves.{led_by, moves_of, parts_of, repeated, times}
use Rattle.long_events.specs.inside.Ends.{ended, last_steps}
use Rattle.long_events.specs.inside.Nesting.{nests, reached, step_level}
use Rattle.long_events.specs.inside.Reading.{Keeps}

-- ---- parts

-- steps before those with the same parts
parts-after : (before one other : List Step) → parts_of one ≡ parts_of other → parts_of (before ++ one) ≡ parts_of (before ++ other)
unfolding parts_of
parts-after [] one other same = same
parts-after (Give event ∷ before) one other same = ap (led_by (move.Given event ∷ [])) (parts-after before one other same)
parts-after (Toggle pin count ∷ before) one other same = ap (led_by (replicate count (move.Toggled pin))) (parts-after before one other same)
parts-after (Repeat count ∷ before) one other same = ap (repeated count) (parts-after before one other same)
parts-after (End ∷ before) one other same = ap (λ parts. [] ∷ parts) (parts-after before one other same)

led_by-cons : (moves : List Move) (parts : List (List Move)) → led_by moves parts ≡ get_or (led_by moves parts) 0 [] ∷ drop 1 (led_by moves parts)
led_by-cons moves [] = refl
led_by-cons moves (part ∷ parts) = refl

repeated-cons : (count : ℕ) (parts : List (List Move)) → parts ≡ get_or parts 0 [] ∷ drop 1 parts → repeated count parts ≡ get_or (repeated count parts) 0 [] ∷ drop 1 (repeated count parts)
repeated-cons count [] some = absurd cc
repeated-cons count (body ∷ parts) some = led_by-cons (times count body) parts

pub parts_of-cons : (steps : List Step) → parts_of steps ≡ get_or (parts_of steps) 0 [] ∷ drop 1 (parts_of steps)
unfolding parts_of
parts_of-cons [] = refl
parts_of-cons (Give event ∷ steps) = led_by-cons (move.Given event ∷ []) (parts_of steps)
parts_of-cons (Toggle pin count ∷ steps) = led_by-cons (replicate count (move.Toggled pin)) (parts_of steps)
parts_of-cons (Repeat count ∷ steps) = repeated-cons count (parts_of steps) (parts_of-cons steps)
parts_of-cons (End ∷ steps) = refl

times-none : (count : ℕ) → times {A = Move} count [] ≡ []
unfolding times
times-none zero = refl
times-none (suc count) = times-none count

led_by-none : (parts : List (List Move)) → parts ≡ get_or parts 0 [] ∷ drop 1 parts → led_by [] parts ≡ parts
led_by-none [] some = absurd cc
led_by-none (part ∷ parts) some = refl

-- a `repeat` of nothing has no moves
repeat-nothing : (count : ℕ) (rest : List Step) → parts_of (Repeat count ∷ End ∷ rest) ≡ parts_of rest
unfolding parts_of
repeat-nothing count rest = ap (λ (moves : List Move). led_by moves (parts_of rest)) (times-none count) ∙ led_by-none (parts_of rest) (parts_of-cons rest)

-- ---- levels

level_after-push : (steps : List Step) (step : Step) → level_after (steps ++ step ∷ []) ≡ level_step (level_after steps) step
level_after-push steps step = fold-append level_step 0 steps (step ∷ [])

reached-push : (from : Option ℕ) (steps : List Step) (step : Step) → reached from (steps ++ step ∷ []) ≡ option_and_then (λ (count : ℕ). step_level count step) (reached from steps)
reached-push from steps step = fold-append (λ (at : Option ℕ) (next : Step). option_and_then (λ (count : ℕ). step_level count next) at) from steps (step ∷ [])

reached-none : (steps : List Step) → reached None steps ≡ None
reached-none [] = refl
reached-none (step ∷ steps) = reached-none steps

repeat-nests : (level : ℕ) (steps : List Step) (some few : Bool) → (reached (Some (suc level)) steps ≡ Some 0 → nests (suc level) steps ≡ true)
    → reached (cond (some && few) (Some (suc level)) None) steps ≡ Some 0 → (some && (few && nests (suc level) steps)) ≡ true
repeat-nests level steps true true later is = later is
repeat-nests level steps true false later is = absurd (let none : reached None steps ≡ None = reached-none steps in cc)
repeat-nests level steps false few later is = absurd (let none : reached None steps ≡ None = reached-none steps in cc)

-- steps after which none is open have an `end` for each `repeat`
reached-nests : (level : ℕ) (steps : List Step) → reached (Some level) steps ≡ Some 0 → nests level steps ≡ true
unfolding nests
reached-nests level [] is = let same : level ≡ 0 = cc in eq-eqb level 0 same
reached-nests level (Give event ∷ steps) is = reached-nests level steps is
reached-nests level (Toggle pin count ∷ steps) is = reached-nests level steps is
reached-nests level (Repeat count ∷ steps) is = repeat-nests level steps (nat_lt 0 count) (nat_lt level 8) (λ later. reached-nests (suc level) steps later) is
reached-nests zero (End ∷ steps) is = absurd (let none : reached None steps ≡ None = reached-none steps in cc)
reached-nests (suc level) (End ∷ steps) is = reached-nests level steps is

-- ---- what is kept

pub keeps-none : Keeps [] 0 []
keeps-none = record { same_level = refl; deep = omega arith; reaches = refl; parts = λ rest. refl }

-- a step that is kept
keeps-step : (kept : List Step) (level next : ℕ) (steps : List Step) (step : Step) → Keeps kept level steps → step_level level step ≡ Some next → next ≡ level_step level step → next ≤ 8
    → Keeps (kept ++ step ∷ []) next (steps ++ step ∷ [])
keeps-step kept level next steps step keeps goes is deep = record {
  same_level = is ∙ ap (λ n. level_step n step) keeps.same_level ∙ sym (level_after-push steps step);
  deep = deep;
  reaches = reached-push (Some 0) kept step ∙ ap (option_and_then (λ (count : ℕ). step_level count step)) keeps.reaches ∙ goes;
  parts = λ rest.
      ap parts_of (append_assoc kept (step ∷ []) rest) ∙ keeps.parts (step ∷ rest) ∙ ap parts_of (sym (append_assoc steps (step ∷ []) rest));
}

pub keeps-give : (kept : List Step) (level : ℕ) (steps : List Step) (event : Event) → Keeps kept level steps → Keeps (kept ++ Give event ∷ []) level (steps ++ Give event ∷ [])
keeps-give kept level steps event keeps = keeps-step kept level level steps (Give event) keeps refl refl keeps.deep

pub keeps-toggle : (kept : List Step) (level : ℕ) (steps : List Step) (pin count : ℕ) → Keeps kept level steps → Keeps (kept ++ Toggle pin count ∷ []) level (steps ++ Toggle pin count ∷ [])
keeps-toggle kept level steps pin count keeps = keeps-step kept level level steps (Toggle pin count) keeps refl refl keeps.deep

pub keeps-open : (kept : List Step) (level : ℕ) (steps : List Step) (count : ℕ) → 0 < count → level < 8 → Keeps kept level steps → Keeps (kept ++ Repeat count ∷ []) (level + 1) (steps ++ Repeat count ∷ [])
keeps-open kept level steps count some few keeps =
    let goes : step_level level (Repeat count) ≡ Some (suc level) =
    ap (λ test. cond test (Some (suc level)) None) (and_from (nat_lt 0 count) (nat_lt level 8) (lt-ltb 0 count some) (lt-ltb level 8 few)) in
    let more : suc level ≡ level + 1 = omega arith in
    keeps-step kept level (level + 1) steps (Repeat count) keeps (goes ∙ ap (λ n. Some n) more) refl (omega arith)

keeps-end : (kept : List Step) (level : ℕ) (steps : List Step) → Keeps kept (suc level) steps → Keeps (kept ++ End ∷ []) level (steps ++ End ∷ [])
keeps-end kept level steps keeps =
    let deep : suc level ≤ 8 = keeps.deep in
    keeps-step kept (suc level) level steps End keeps refl (omega arith) (omega arith)

-- a `repeat` of nothing goes
keeps-nothing : (kept : List Step) (count level : ℕ) (steps : List Step) → Keeps (kept ++ Repeat count ∷ []) (suc level) steps → Keeps kept level (steps ++ End ∷ [])
keeps-nothing kept count level steps keeps =
    let deep : suc level ≤ 8 = keeps.deep in
    record {
      same_level = (let less : level ≡ suc level - 1 = omega arith in less ∙ ap (λ n. level_step n End) keeps.same_level ∙ sym (level_after-push steps End));
      deep = omega arith;
      reaches = before (reached (Some 0) kept) (sym (reached-push (Some 0) kept (Repeat count)) ∙ keeps.reaches);
      parts = λ rest.
          parts-after kept rest (Repeat count ∷ End ∷ rest) (sym (repeat-nothing count rest))
          ∙ ap parts_of (sym (append_assoc kept (Repeat count ∷ []) (End ∷ rest)))
          ∙ keeps.parts (End ∷ rest)
          ∙ ap parts_of (sym (append_assoc steps (End ∷ []) rest));
    }
  where
    by_test : (open_ones : ℕ) (test : Bool) → cond test (Some (suc open_ones)) None ≡ Some (suc level) → Some open_ones ≡ Some level
    by_test open_ones true is = cc
    by_test open_ones false is = absurd cc

    before : (at : Option ℕ) → option_and_then (λ (open_ones : ℕ). step_level open_ones (Repeat count)) at ≡ Some (suc level) → at ≡ Some level
    before None is = absurd cc
    before (Some open_ones) is = by_test open_ones (nat_lt 0 count && nat_lt open_ones 8) is

-- an `end`
last-repeat : (steps : List Step) → is_repeat (last_steps steps) ≡ true → (count : ℕ) × (steps ≡ take (length steps - 1) steps ++ Repeat count ∷ [])
last-repeat steps is =
    by_last (last_steps steps) refl is
  where
    by_last : (last : List Step) → last_steps steps ≡ last → is_repeat last ≡ true → (count : ℕ) × (steps ≡ take (length steps - 1) steps ++ Repeat count ∷ [])
    by_last [] same is = absurd cc
    by_last (Give event ∷ more) same is = absurd cc
    by_last (Toggle pin count ∷ more) same is = absurd cc
    by_last (End ∷ more) same is = absurd cc
    by_last (Repeat count ∷ []) same is = (count, sym (take-append-drop (length steps - 1) steps) ∙ ap (λ (last : List Step). take (length steps - 1) steps ++ last) same)
    by_last (Repeat count ∷ second ∷ more) same is =
        absurd (let many : length (drop (length steps - 1) steps) ≡ suc (suc (length more)) = ap length same in omega (arith, many, length-drop (length steps - 1) steps))

pub keeps-ended : (kept : List Step) (level next : ℕ) (steps : List Step) → next + 1 ≡ level → Keeps kept level steps → Keeps (ended kept) next (steps ++ End ∷ [])
keeps-ended kept level next steps less keeps =
    let deeper : level ≡ suc next = omega (arith, less) in
    let inner : Keeps kept (suc next) steps = subst (λ n. Keeps kept n steps) deeper keeps in
    cond_both (is_repeat (last_steps kept)) (take (length kept - 1) kept) (kept ++ End ∷ []) (λ (after : List Step). Keeps after next (steps ++ End ∷ []))
    (λ nothing. let last = last-repeat kept nothing in keeps-nothing (take (length kept - 1) kept) last.0 next steps (subst (λ (all : List Step). Keeps all (suc next) steps) last.1 inner))
    (λ some. keeps-end kept next steps inner)

-- ---- all steps

pub keeps-nested : (kept steps : List Step) → Keeps kept 0 steps → nests 0 kept ≡ true
keeps-nested kept steps keeps = reached-nests 0 kept keeps.reaches

pub keeps-moves : (kept steps : List Step) → Keeps kept 0 steps → moves_of kept ≡ moves_of steps
keeps-moves kept steps keeps =
    ap (λ (parts : List (List Move)). get_or parts 0 []) (ap parts_of (sym (append-nil kept)) ∙ keeps.parts [] ∙ ap parts_of (append-nil steps))
