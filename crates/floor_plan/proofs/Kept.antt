-- What is kept of lists by tests, and how many pass.
use Rattle.std.proofs.Common.{◌≡◌, ℕ, zero, suc, ◌+◌, Bool, true, false, cond, ◌&&◌, List, [], ◌∷◌, ◌++◌, filter, length, map, count_by, refl, sym, ap, ◌∙◌, arith, inl, inr}
use Rattle.std.specs.Prelude.{All}
use Rattle.std.proofs.lemmas.Bool.{cases_Bool}
use Rattle.std.proofs.lemmas.List.{map-append}
use Rattle.std.proofs.lemmas.List.Elements.{All-head, All-tail, filter-append}
use Rattle.std.proofs.lemmas.List.Sums.{sum_by-cons}
use Rattle.index_search.specs.Places.{gathered_below}

-- ---- filters

pub filter-all : {A : Type 0} (test : A → Bool) (items : List A) → All (λ item. test item ≡ true) items → filter test items ≡ items
filter-all test [] all = refl
filter-all test (item ∷ items) all =
    rw (All-head (λ item. test item ≡ true) item items all) (ap (λ list. item ∷ list) (filter-all test items (All-tail (λ item. test item ≡ true) item items all)))

pub filter-none : {A : Type 0} (test : A → Bool) (items : List A) → All (λ item. test item ≡ false) items → filter test items ≡ []
filter-none test [] all = refl
filter-none test (item ∷ items) all =
    rw (All-head (λ item. test item ≡ false) item items all) (filter-none test items (All-tail (λ item. test item ≡ false) item items all))

-- two tests in either order
pub filter-turned : {A : Type 0} (one two : A → Bool) (items : List A) → filter one (filter two items) ≡ filter two (filter one items)
filter-turned one two [] = refl
filter-turned one two (item ∷ items) =
    elim (cases_Bool (one item)) [
      | inl a ↦
          elim (cases_Bool (two item)) [
            | inl b ↦ simp (a, b) (ap (λ list. item ∷ list) (filter-turned one two items))
            | inr b ↦ simp (a, b) (filter-turned one two items)
          ]
      | inr a ↦
          elim (cases_Bool (two item)) [
            | inl b ↦ simp (a, b) (filter-turned one two items)
            | inr b ↦ simp (a, b) (filter-turned one two items)
          ]
    ]

-- what passes a test of all that is made in one way
pub filter-map_all : {A B : Type 0} (test : B → Bool) (made : A → B) (items : List A) → ((item : A) → test (made item) ≡ true) → filter test (map made items) ≡ map made items
filter-map_all test made [] passes = refl
filter-map_all test made (item ∷ items) passes = rw (passes item) (ap (λ list. made item ∷ list) (filter-map_all test made items passes))

pub filter-map_none : {A B : Type 0} (test : B → Bool) (made : A → B) (items : List A) → ((item : A) → test (made item) ≡ false) → filter test (map made items) ≡ []
filter-map_none test made [] fails = refl
filter-map_none test made (item ∷ items) fails = rw (fails item) (filter-map_none test made items fails)

pub filter-gathered : {A : Type 0} (test : A → Bool) (n : ℕ) (given : ℕ → List A) → filter test (gathered_below n given) ≡ gathered_below n (λ k. filter test (given k))
unfolding gathered_below
filter-gathered test zero given = refl
filter-gathered test (suc n) given =
    filter-append test (gathered_below n given) (given n) ∙ ap (λ list. list ++ filter test (given n)) (filter-gathered test n given)

pub map-gathered : {A B : Type 0} (made : A → B) (n : ℕ) (given : ℕ → List A) → map made (gathered_below n given) ≡ gathered_below n (λ k. map made (given k))
unfolding gathered_below
map-gathered made zero given = refl
map-gathered made (suc n) given =
    map-append made (gathered_below n given) (given n) ∙ ap (λ list. list ++ map made (given n)) (map-gathered made n given)

-- ---- counts

pub count_by-cons : {A : Type 0} (test : A → Bool) (item : A) (items : List A) → count_by test (item ∷ items) ≡ cond (test item) 1 0 + count_by test items
count_by-cons test item items = sum_by-cons (λ x. cond (test x) 1 0) item items

-- how many pass both of two tests
pub count_by-both : {A : Type 0} (test one two : A → Bool) (items : List A) → ((item : A) → test item ≡ (one item && two item)) → count_by test items ≡ count_by two (filter one items)
count_by-both test one two [] is = refl
count_by-both test one two (item ∷ items) is =
    let rest = count_by-both test one two items is in
    count_by-cons test item items ∙ ap (λ b. cond b 1 0 + count_by test items) (is item) ∙
    elim (cases_Bool (one item)) as (λ v. (cond (one item && two item) 1 0 + count_by test items) ≡ count_by two (cond (one item) (item ∷ filter one items) (filter one items))) [
      | inl passes ↦ rw (passes, rest) (sym (count_by-cons two item (filter one items)))
      | inr fails ↦ rw (fails, rest) (omega arith)
    ]

pub count_by-map : {A B : Type 0} (test : B → Bool) (made : A → B) (items : List A) → count_by test (map made items) ≡ count_by (λ item. test (made item)) items
count_by-map test made [] = refl
count_by-map test made (item ∷ items) =
    count_by-cons test (made item) (map made items) ∙ ap (λ n. cond (test (made item)) 1 0 + n) (count_by-map test made items) ∙ sym (count_by-cons (λ item. test (made item)) item items)

pub count_by-same : {A : Type 0} (one two : A → Bool) (items : List A) → ((item : A) → one item ≡ two item) → count_by one items ≡ count_by two items
count_by-same one two [] same = refl
count_by-same one two (item ∷ items) same =
    count_by-cons one item items ∙ rw (same item, count_by-same one two items same) (sym (count_by-cons two item items))

pub count_by-all : {A : Type 0} (items : List A) → count_by (λ item. true) items ≡ length items
count_by-all [] = refl
count_by-all (item ∷ items) = count_by-cons (λ item. true) item items ∙ omega (arith, count_by-all items)
