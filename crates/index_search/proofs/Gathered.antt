-- Lists that the places below a bound give, one after the other: how they grow, and what they contain.
use Rattle.std.proofs.Common.{◌≡◌, ℕ, zero, suc, ◌+◌, ◌*◌, ◌<◌, ◌≤◌, List, ◌++◌, length, map, append_assoc, append-nil, refl, sym, ap, ◌∙◌, subst, inl, inr, arith, length-append}
use Rattle.std.specs.List.{flat_map, All, Contains}
use Rattle.std.proofs.lemmas.Bool.{cases_lt}
use Rattle.std.proofs.lemmas.List.{map-append}
use Rattle.std.proofs.lemmas.List.Elements.{All-nil, All-append, Contains-append_left, Contains-append_right, Contains-append_cases}
use Rattle.std.proofs.lemmas.List.Concat.{flat_map-append}
use Rattle.index_search.specs.Places.{gathered_below}
use Rattle.index_search.proofs.Places.{gathered_below-more}

-- ---- a list that grows place by place

-- no place yet
pub appended-none : {A : Type 0} (before : List A) (given : ℕ → List A) → before ≡ before ++ gathered_below 0 given
unfolding gathered_below
appended-none before given = sym (append-nil before)

-- one place more
pub appended-more : {A : Type 0} (before now later : List A) (n : ℕ) (given : ℕ → List A) → now ≡ before ++ gathered_below n given → later ≡ now ++ given n → later ≡ before ++ gathered_below (n + 1) given
appended-more before now later n given so_far more =
    more ∙ ap (λ list. list ++ given n) so_far ∙ append_assoc before (gathered_below n given) (given n) ∙ ap (λ list. before ++ list) (sym (gathered_below-more n given))

-- ---- what the places give

-- at most so much a place
pub length-gathered_below : {A : Type 0} (n most : ℕ) (given : ℕ → List A) → ((k : ℕ) → length (given k) ≤ most) → length (gathered_below n given) ≤ n * most
unfolding gathered_below
length-gathered_below zero most given few = omega arith
length-gathered_below (suc n) most given few =
    omega (arith, length-append (gathered_below n given) (given n), length-gathered_below n most given few, few n)

-- a map of it
pub map-gathered_below : {A B : Type 0} (change : A → B) (n : ℕ) (given : ℕ → List A) → map change (gathered_below n given) ≡ gathered_below n (λ k. map change (given k))
unfolding gathered_below
map-gathered_below change zero given = refl
map-gathered_below change (suc n) given =
    map-append change (gathered_below n given) (given n) ∙ ap (λ list. list ++ map change (given n)) (map-gathered_below change n given)

-- what its items give
pub flat_map-gathered_below : {A B : Type 0} (change : A → List B) (n : ℕ) (given : ℕ → List A) → flat_map change (gathered_below n given) ≡ gathered_below n (λ k. flat_map change (given k))
unfolding gathered_below
flat_map-gathered_below change zero given = refl
flat_map-gathered_below change (suc n) given =
    flat_map-append change (gathered_below n given) (given n) ∙ ap (λ list. list ++ flat_map change (given n)) (flat_map-gathered_below change n given)

-- what holds of all that each place gives
pub All-gathered_below : {A : Type 0} (P : A → Type 0) (n : ℕ) (given : ℕ → List A) → ((k : ℕ) → k < n → All P (given k)) → All P (gathered_below n given)
unfolding gathered_below
All-gathered_below P zero given all = All-nil P
All-gathered_below P (suc n) given all =
    All-append P (gathered_below n given) (given n) (All-gathered_below P n given (λ k below. all k (omega arith))) (all n (omega arith))

-- what a place gives is among it
pub Contains-gathered_below : {A : Type 0} (n k : ℕ) (given : ℕ → List A) (item : A) → k < n → Contains (given k) item → Contains (gathered_below n given) item
unfolding gathered_below
Contains-gathered_below zero k given item below there = absurd (omega arith)
Contains-gathered_below (suc n) k given item below there =
    elim (cases_lt k n) [
      | inl less ↦ Contains-append_left (gathered_below n given) (given n) item (Contains-gathered_below n k given item less there)
      | inr more ↦
          let same : k ≡ n = omega arith in
          Contains-append_right (gathered_below n given) (given n) item (subst (λ place. Contains (given place) item) same there)
    ]

-- what is among it is what some place gives
pub gathered_below-place : {A : Type 0} (n : ℕ) (given : ℕ → List A) (item : A) → Contains (gathered_below n given) item → (k : ℕ) × (k < n) × Contains (given k) item
unfolding gathered_below
gathered_below-place zero given item there = absurd (omega (arith, there.1))
gathered_below-place (suc n) given item there =
    elim (Contains-append_cases (gathered_below n given) (given n) item there) [
      | inl earlier ↦
          let found = gathered_below-place n given item earlier in
          (found.0, omega (arith, found.1), found.2)
      | inr last ↦ (n, omega arith, last)
    ]
