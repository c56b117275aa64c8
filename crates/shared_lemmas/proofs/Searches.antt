-- Searches of a list, and of the numbers below a bound.
use Rattle.std.proofs.Common.{◌≡◌, ℕ, zero, suc, ◌<◌, ◌≤◌, Bool, true, false, not, ◌||◌, ◌⊎◌, inl, inr, List, [], ◌∷◌, ◌++◌, length, refl, ap, ◌∙◌, subst, arith}
use Rattle.std.specs.Prelude.{Some, None, position}
use Rattle.std.specs.List.{list_any, position_or_len}
use Rattle.std.proofs.Math.Bool.{or-false}
use Rattle.std.proofs.lemmas.Bool.{cases_Bool, cases_lt, lt-ltb}
use Rattle.std.proofs.lemmas.List.Folds.{list_any-append}
use Rattle.std.proofs.lemmas.List.Sums.{prefix_len-le-length}

-- whether an item passes, with one item more
pub list_any-push : {A : Type 0} (test : A → Bool) (xs : List A) (x : A) → list_any test (xs ++ x ∷ []) ≡ (list_any test xs || test x)
list_any-push test xs x = list_any-append test xs (x ∷ []) ∙ ap (λ last. list_any test xs || last) (or-false (test x))

-- a number below a bound passes, or none does
pub some_or_none : (n : ℕ) (test : ℕ → Bool) → ((k : ℕ) × (k < n) × (test k ≡ true)) ⊎ ((k : ℕ) → k < n → test k ≡ false)
some_or_none zero test = inr (λ k within. absurd (omega arith))
some_or_none (suc n) test =
    elim (cases_Bool (test n)) [
      | inl here ↦ inl (n, omega arith, here)
      | inr away ↦ elim (some_or_none n test) [
        | inl some ↦ inl (some.0, omega (arith, some.1), some.2)
        | inr none ↦ inr (λ k within. elim (cases_lt k n) [
          | inl less ↦ none k less
          | inr more ↦ let same : n ≡ k = omega arith in subst (λ j. test j ≡ false) same away
        ])
      ]
    ]

-- the first item that passes is within the list, or the search ends at the end of the list
pub position_or_len-within : {A : Type 0} (test : A → Bool) (xs : List A) → position_or_len test xs ≤ length xs
position_or_len-within test xs = prefix_len-le-length (λ x. not (test x)) xs

-- if no item passes, the search for the first one ends at the end of the list
pub position_or_len-none : {A : Type 0} (test : A → Bool) (xs : List A) → position test xs ≡ None → position_or_len test xs ≡ length xs
position_or_len-none test xs none =
    let bound : position_or_len test xs ≤ length xs = position_or_len-within test xs in
    elim (cases_lt (position_or_len test xs) (length xs)) [
      | inl within ↦ let found : position test xs ≡ Some (position_or_len test xs) = rw (lt-ltb (position_or_len test xs) (length xs) within) refl in absurd cc
      | inr over ↦ omega arith
    ]
