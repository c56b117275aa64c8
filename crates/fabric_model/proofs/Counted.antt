-- How many items of a list pass a test.
use Rattle.std.proofs.Common.{◌≡◌, zero, suc, ◌<◌, ◌≤◌, Bool, true, false, List, [], ◌∷◌, length, ap, ◌∙◌, arith, inl, inr}
use Rattle.std.specs.Prelude.{Contains, filter}
use Rattle.std.proofs.lemmas.Bool.{cases_Bool}

module _ {A : Type 0} (some many : A → Bool) (so : (item : A) → some item ≡ true → many item ≡ true) where
  -- as many pass a wider test
  pub filter-le : (list : List A) → length (filter some list) ≤ length (filter many list)
  filter-le [] = omega arith
  filter-le (item ∷ list) =
      let rest = filter-le list in
      elim (cases_Bool (some item)) [
        | inl passes ↦ rw (passes, so item passes) (omega (arith, rest))
        | inr fails ↦ elim (cases_Bool (many item)) [
          | inl more ↦ rw (fails, more) (omega (arith, rest))
          | inr away ↦ rw (fails, away) rest
        ]
      ]

  -- and more, if one item passes that alone
  pub filter-lt : (list : List A) (item : A) → Contains list item → some item ≡ false → many item ≡ true → length (filter some list) < length (filter many list)
  filter-lt [] item (k, within, here) fails more = absurd (omega (arith, within))
  filter-lt (head ∷ list) item (zero, within, here) fails more =
      let below : some head ≡ false = ap some here ∙ fails in
      let above : many head ≡ true = ap many here ∙ more in
      rw (below, above) (omega (arith, filter-le list))
  filter-lt (head ∷ list) item (suc k, within, here) fails more =
      let rest = filter-lt list item (k, omega (arith, within), here) fails more in
      elim (cases_Bool (some head)) [
        | inl passes ↦ rw (passes, so head passes) (omega (arith, rest))
        | inr below ↦ elim (cases_Bool (many head)) [
          | inl above ↦ rw (below, above) (omega (arith, rest))
          | inr away ↦ rw (below, away) rest
        ]
      ]
