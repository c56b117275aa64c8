-- The first item of a list that is made by joining lists, or place by place.
use Rattle.std.proofs.Common.{◌≡◌, ℕ, zero, suc, ◌<◌, List, [], ◌∷◌, ◌++◌, refl, sym, ap, ◌∙◌, inl, inr, arith}
use Rattle.std.specs.Prelude.{Some, None}
use Rattle.std.proofs.lemmas.Bool.{cases_eq}
use Rattle.index_search.proofs.Places.{gathered_below-none}
use Rattle.index_search.specs.Places.{gathered_below}
use Rattle.fabric_model.specs.Tiles.{first_of}

-- a list without one is empty
pub first_of-none : {A : Type 0} (xs : List A) → first_of xs ≡ None → xs ≡ []
first_of-none [] none = refl
first_of-none (x ∷ xs) none = absurd cc

-- it stays the first if the list grows
pub first_of-append : {A : Type 0} (xs ys : List A) (item : A) → first_of xs ≡ Some item → first_of (xs ++ ys) ≡ Some item
first_of-append [] ys item is = absurd cc
first_of-append (x ∷ xs) ys item is = is

-- what the first place gives that gives something
pub first_of-gathered_below : {A : Type 0} (n k : ℕ) (given : ℕ → List A) (item : A) → k < n → gathered_below k given ≡ [] → first_of (given k) ≡ Some item
    → first_of (gathered_below n given) ≡ Some item
unfolding gathered_below
first_of-gathered_below zero k given item below none is = absurd (omega arith)
first_of-gathered_below (suc n) k given item below none is =
    elim (cases_eq k n) [
      | inl last ↦
          let here : first_of (given n) ≡ Some item = ap (λ j. first_of (given j)) (sym last) ∙ is in
          let none_before : gathered_below n given ≡ [] = ap (λ j. gathered_below j given) (sym last) ∙ none in
          rw none_before here
      | inr before ↦ first_of-append (gathered_below n given) (given n) item (first_of-gathered_below n k given item (omega arith) none is)
    ]

-- the first item, if that place gives one item
pub first_of-alone : {A : Type 0} (n k : ℕ) (given : ℕ → List A) (item : A) → k < n → given k ≡ item ∷ [] → ((j : ℕ) → j < k → given j ≡ []) → first_of (gathered_below n given) ≡ Some item
first_of-alone n k given item below here before = first_of-gathered_below n k given item below (gathered_below-none k given before) (ap first_of here)
