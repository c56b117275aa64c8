-- Lines in which each `repeat` has its `end`.
use Rattle.std.proofs.Common.{◌≡◌, ◌∙◌, ℕ, ◌+◌, List, [], ◌∷◌, ◌++◌, drop, get_or, length, map, refl, replicate, sym, ap, ap₂, inl, inr}
use Rattle.std.proofs.Common.{drop_of_length-le}
use Rattle.std.proofs.lemmas.List.{drop_more}
use Rattle.std.proofs.lemmas.Bool.{cases_lt}
use Rattle.long_events.specs.declared.step.Step.{Step}
use Rattle.long_events.specs.declared.step.Step.TheVariants.{Give, Toggle, Repeat, End}
use Rattle.long_events.specs.declared.moves.Move.TheVariants as move
use Rattle.long_events.specs.Moves.{led_by, times}
use Rattle.long_events.specs.inside.Cursors.{Tick, tick_parts, turned_over}
use Rattle.long_events.specs.inside.Cursors.Tick.{given, turned}
use Rattle.long_events.specs.inside.Nesting.{closings}

-- ---- lists

-- what comes after the first of what is left
pub drop-next : {A : Type 0} (list : List A) (place : ℕ) (first : A) (rest : List A) → drop place list ≡ first ∷ rest → drop (place + 1) list ≡ rest
drop-next {A = A} list place first rest is =
    elim (cases_lt place (length list)) as (λ _. drop (place + 1) list ≡ rest) [
      | inl within ↦ (let more : drop place list ≡ get_or list place first ∷ drop (place + 1) list = drop_more list place first within in cc)
      | inr past ↦ (let none : drop place list ≡ [] = drop_of_length-le list past in absurd cc)
    ]

-- ---- parts

-- what leads is in the first part alone
pub drop-led_by : {A : Type 0} (list : List A) (parts : List (List A)) → drop 1 (led_by list parts) ≡ drop 1 parts
drop-led_by list [] = refl
drop-led_by list (part ∷ parts) = refl

pub drop-turned_over : (count : ℕ) (parts : List (List Tick)) → drop 1 (turned_over count parts) ≡ drop 1 (drop 1 parts)
drop-turned_over count [] = refl
drop-turned_over count (body ∷ parts) = drop-led_by (turned ∷ times count (body ++ turned ∷ [])) parts

-- there is a first part
led_by-cons : {A : Type 0} (list : List A) (parts : List (List A)) → led_by list parts ≡ get_or (led_by list parts) 0 [] ∷ drop 1 (led_by list parts)
led_by-cons list [] = refl
led_by-cons list (part ∷ parts) = refl

turned_over-cons : (count : ℕ) (parts : List (List Tick)) → parts ≡ get_or parts 0 [] ∷ drop 1 parts
    → turned_over count parts ≡ get_or (turned_over count parts) 0 [] ∷ drop 1 (turned_over count parts)
turned_over-cons count [] some = absurd cc
turned_over-cons count (body ∷ parts) some = led_by-cons (turned ∷ times count (body ++ turned ∷ [])) parts

pub tick_parts-cons : (steps : List Step) → tick_parts steps ≡ get_or (tick_parts steps) 0 [] ∷ drop 1 (tick_parts steps)
unfolding tick_parts
tick_parts-cons [] = refl
tick_parts-cons (Give event ∷ steps) = led_by-cons (given (move.Given event) ∷ []) (tick_parts steps)
tick_parts-cons (Toggle pin count ∷ steps) = led_by-cons (turned ∷ replicate count (given (move.Toggled pin))) (tick_parts steps)
tick_parts-cons (Repeat count ∷ steps) = turned_over-cons count (tick_parts steps) (tick_parts-cons steps)
tick_parts-cons (End ∷ steps) = refl

-- ---- closings

-- the first part of the lines from a place on
abbrev part_at : List Step → ℕ → List Tick
part_at steps place = get_or (tick_parts (drop place steps)) 0 []

-- the parts after the first one begin at the closings
parts-closed : (steps : List Step) (place : ℕ) (rest : List Step) → drop place steps ≡ rest → drop 1 (tick_parts rest) ≡ map (part_at steps) (closings place rest)
unfolding tick_parts closings
parts-closed steps place [] is = refl
parts-closed steps place (Give event ∷ rest) is =
    drop-led_by (given (move.Given event) ∷ []) (tick_parts rest) ∙ parts-closed steps (place + 1) rest (drop-next steps place (Give event) rest is)
parts-closed steps place (Toggle pin count ∷ rest) is =
    drop-led_by (turned ∷ replicate count (given (move.Toggled pin))) (tick_parts rest) ∙ parts-closed steps (place + 1) rest (drop-next steps place (Toggle pin count) rest is)
parts-closed steps place (Repeat count ∷ rest) is =
    drop-turned_over count (tick_parts rest)
    ∙ ap (drop 1) (parts-closed steps (place + 1) rest (drop-next steps place (Repeat count) rest is))
    ∙ drop-map (part_at steps) (closings (place + 1) rest)
  where
    drop-map : {A B : Type 0} (f : A → B) (list : List A) → drop 1 (map f list) ≡ map f (drop 1 list)
    drop-map f [] = refl
    drop-map f (first ∷ list) = refl
parts-closed steps place (End ∷ rest) is =
    let next : drop (place + 1) steps ≡ rest = drop-next steps place End rest is in
    let first : get_or (tick_parts rest) 0 [] ≡ part_at steps (place + 1) = ap (λ (lines : List Step). get_or (tick_parts lines) 0 []) (sym next) in
    tick_parts-cons rest ∙ ap₂ (λ (part : List Tick) (parts : List (List Tick)). part ∷ parts) first (parts-closed steps (place + 1) rest next)

-- lines with the same closings go on in the same way after their first part
pub same-rest : (steps : List Step) (one other : ℕ) → closings one (drop one steps) ≡ closings other (drop other steps)
    → drop 1 (tick_parts (drop one steps)) ≡ drop 1 (tick_parts (drop other steps))
same-rest steps one other same =
    parts-closed steps one (drop one steps) refl ∙ ap (map (part_at steps)) same ∙ sym (parts-closed steps other (drop other steps) refl)
