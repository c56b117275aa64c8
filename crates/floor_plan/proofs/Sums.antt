-- Sums over the places of the grid.
use Rattle.std.proofs.Common.{◌≡◌, ◌≢◌, ℕ, zero, suc, ◌+◌, ◌<◌, Bool, true, false, cond, ◌&&◌, ◌==◌, List, [], ◌∷◌, length, count_by, length-append, refl, sym, ap, ap₂, ◌∙◌, arith, inl, inr}
use Rattle.std.specs.Prelude.{All, sum_by}
use Rattle.std.proofs.lemmas.Bool.{cases_Bool, eqb-true, eqb-false, ne_eqb}
use Rattle.std.proofs.lemmas.List.Elements.{All-head, All-tail}
use Rattle.std.proofs.lemmas.List.Sums.{sum_by-append}
use Rattle.index_search.specs.Places.{gathered_below}
use Rattle.floor_plan.proofs.Kept.{count_by-cons}

-- the sum of what the places below a bound have
abbrev pub total : ℕ → (ℕ → ℕ) → ℕ
total zero of = 0
total (suc n) of = total n of + of n

pub total-same : (n : ℕ) (one two : ℕ → ℕ) → ((k : ℕ) → k < n → one k ≡ two k) → total n one ≡ total n two
total-same zero one two same = refl
total-same (suc n) one two same = omega (arith, total-same n one two (λ k lt. same k (omega arith)), same n (omega arith))

pub total-plus : (n : ℕ) (one two : ℕ → ℕ) → total n (λ k. one k + two k) ≡ total n one + total n two
total-plus zero one two = refl
total-plus (suc n) one two = omega (arith, total-plus n one two)

pub total-none : (n : ℕ) → total n (λ k. 0) ≡ 0
total-none zero = refl
total-none (suc n) = omega (arith, total-none n)

-- a number that only one place has
total-away : (n place number : ℕ) → n < suc place → total n (λ k. cond (place == k) number 0) ≡ 0
total-away zero place number before = refl
total-away (suc n) place number before =
    let away = ne_eqb place n (λ same. omega arith) in
    rw away (omega (arith, total-away n place number (omega arith)))

pub total-once : (n place number : ℕ) → place < n → total n (λ k. cond (place == k) number 0) ≡ number
total-once zero place number inside = absurd (omega arith)
total-once (suc n) place number inside =
    elim (cases_Bool (place == n)) [
      | inl here ↦
          let same : place ≡ n = eqb-true place n here in
          rw here (omega (arith, total-away n place number (omega arith)))
      | inr away ↦
          let other : place ≢ n = eqb-false place n away in
          rw away (omega (arith, total-once n place number (omega arith)))
    ]

pub sum_by-gathered : {A : Type 0} (f : A → ℕ) (n : ℕ) (given : ℕ → List A) → sum_by f (gathered_below n given) ≡ total n (λ k. sum_by f (given k))
unfolding gathered_below
sum_by-gathered f zero given = refl
sum_by-gathered f (suc n) given = sum_by-append f (gathered_below n given) (given n) ∙ ap (λ m. m + sum_by f (given n)) (sum_by-gathered f n given)

pub length-gathered : {A : Type 0} (n : ℕ) (given : ℕ → List A) → length (gathered_below n given) ≡ total n (λ k. length (given k))
unfolding gathered_below
length-gathered zero given = refl
length-gathered (suc n) given = length-append (gathered_below n given) (given n) ∙ ap (λ m. m + length (given n)) (length-gathered n given)

-- ---- the grid

module _ (width height : ℕ) where
  abbrev pub over : (ℕ → ℕ → ℕ) → ℕ
  over of = total height (λ y. total width (λ x. of x y))

  pub over-plus : (one two : ℕ → ℕ → ℕ) → over (λ x y. one x y + two x y) ≡ over one + over two
  over-plus one two =
      total-same height (λ y. total width (λ x. one x y + two x y)) (λ y. total width (λ x. one x y) + total width (λ x. two x y)) (λ y lt. total-plus width (λ x. one x y) (λ x. two x y))
      ∙ total-plus height (λ y. total width (λ x. one x y)) (λ y. total width (λ x. two x y))

  pub over-same : (one two : ℕ → ℕ → ℕ) → ((x y : ℕ) → x < width → y < height → one x y ≡ two x y) → over one ≡ over two
  over-same one two same = total-same height (λ y. total width (λ x. one x y)) (λ y. total width (λ x. two x y)) (λ y low. total-same width (λ x. one x y) (λ x. two x y) (λ x left. same x y left low))

  over-none : over (λ x y. 0) ≡ 0
  over-none = total-same height (λ y. total width (λ x. 0)) (λ y. 0) (λ y lt. total-none width) ∙ total-none height

  -- a number that one place has
  over-once : (left low number : ℕ) → left < width → low < height → over (λ x y. cond ((left == x) && (low == y)) number 0) ≡ number
  over-once left low number inside above =
      total-same height (λ y. total width (λ x. cond ((left == x) && (low == y)) number 0)) (λ y. cond (low == y) number 0) (λ y lt. in-row (low == y))
      ∙ total-once height low number above
    where
      alone : (b : Bool) → cond (b && true) number 0 ≡ cond b number 0
      alone true = refl
      alone false = refl

      gone : (b : Bool) → cond (b && false) number 0 ≡ 0
      gone true = refl
      gone false = refl

      in-row : (b : Bool) → total width (λ x. cond ((left == x) && b) number 0) ≡ cond b number 0
      in-row true = total-same width (λ x. cond ((left == x) && true) number 0) (λ x. cond (left == x) number 0) (λ x lt. alone (left == x)) ∙ total-once width left number inside
      in-row false = total-same width (λ x. cond ((left == x) && false) number 0) (λ x. 0) (λ x lt. gone (left == x)) ∙ total-none width

  -- items that pass a test, counted place by place
  module _ {A : Type 0} (column row : A → ℕ) (test : A → Bool) where
    abbrev pub at : ℕ → ℕ → A → Bool
    at x y item = test item && ((column item == x) && (row item == y))

    pub over-counts : (items : List A) → All (λ item. (column item < width) × (row item < height)) items → over (λ x y. count_by (at x y) items) ≡ count_by test items
    over-counts [] all = over-none
    over-counts (item ∷ items) all =
        let here = All-head (λ item. (column item < width) × (row item < height)) item items all in
        over-same (λ x y. count_by (at x y) (item ∷ items)) (λ x y. cond (at x y item) 1 0 + count_by (at x y) items) (λ x y left low. count_by-cons (at x y) item items)
        ∙ over-plus (λ x y. cond (at x y item) 1 0) (λ x y. count_by (at x y) items)
        ∙ ap₂ (λ n m. n + m) (one (test item)) (over-counts items (All-tail (λ item. (column item < width) × (row item < height)) item items all))
        ∙ sym (count_by-cons test item items)
      where
        one : (b : Bool) → over (λ x y. cond (b && ((column item == x) && (row item == y))) 1 0) ≡ cond b 1 0
        one true =
            let here = All-head (λ item. (column item < width) × (row item < height)) item items all in
            over-once (column item) (row item) 1 here.0 here.1
        one false = over-none
