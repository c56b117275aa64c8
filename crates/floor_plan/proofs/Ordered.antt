-- Lists in the order of a key: what is gathered of them key by key is the list.
use Rattle.std.proofs.Common.{◌≡◌, ◌≢◌, ℕ, zero, suc, ◌+◌, ◌*◌, ◌<◌, ◌≤◌, Bool, ◌&&◌, ◌==◌, ltb, List, [], ◌∷◌, ◌++◌, filter, refl, sym, ap, ◌∙◌, arith, inl, inr, map, get_or}
use Rattle.std.specs.Prelude.{All, flat_map}
use Rattle.std.proofs.lemmas.Bool.{cases_Bool, eqb-true, eqb-false, ltb-true, ltb-false, lt-ltb, le-ltb, ne_eqb}
use Rattle.std.proofs.lemmas.List.Elements.{All-head, All-tail, All-weaker, All-append, All-filter, All-map}
use Rattle.index_search.specs.Places.{gathered_below}
use Rattle.index_search.proofs.Places.{gathered_below-same}
use Rattle.index_search.proofs.Gathered.{All-gathered_below}
use Rattle.fabric_model.specs.Numbered.{numbered_from}
use Rattle.fabric_model.proofs.Within.{All-filtered, All-flat_map, All-numbered}

-- no item stands before one with a lesser key
abbrev pub Ascends : {A : Type 0} → (A → ℕ) → List A → Type 0
Ascends key [] = Unit {0}
Ascends key (item ∷ items) = All (λ later. key item ≤ key later) items × Ascends key items

-- ---- lists that ascend

module _ {A : Type 0} (key : A → ℕ) where
  -- all items have one key
  pub Ascends-equal : (k : ℕ) (items : List A) → All (λ item. key item ≡ k) items → Ascends key items
  Ascends-equal k [] all = tt
  Ascends-equal k (item ∷ items) all =
      let rest = All-tail (λ item. key item ≡ k) item items all in
      let here : key item ≡ k = All-head (λ item. key item ≡ k) item items all in
      (λ j d lt. omega (arith, rest j d lt), Ascends-equal k items rest)

  -- a list and another one, if no key of the first is more than n, and no key of the second less
  pub Ascends-append : (n : ℕ) (first second : List A) → Ascends key first → Ascends key second → All (λ item. key item ≤ n) first → All (λ item. n ≤ key item) second → Ascends key (first ++ second)
  Ascends-append n [] second ascends others low high = others
  Ascends-append n (item ∷ items) second ascends others low high =
      let here : key item ≤ n = All-head (λ item. key item ≤ n) item items low in (
        All-append (λ later. key item ≤ key later) items second ascends.0 (λ k d lt. omega (arith, high k d lt)),
        Ascends-append n items second ascends.1 others (All-tail (λ item. key item ≤ n) item items low) high,
      )

  -- what places give, if the keys of each place are between two bounds that grow
  pub Ascends-gathered : (n : ℕ) (bound : ℕ → ℕ) (given : ℕ → List A) → ((j k : ℕ) → j ≤ k → bound j ≤ bound k)
      → ((k : ℕ) → k < n → Ascends key (given k)) → ((k : ℕ) → k < n → All (λ item. bound k ≤ key item) (given k)) → ((k : ℕ) → k < n → All (λ item. key item < bound (suc k)) (given k))
      → Ascends key (gathered_below n given)
  unfolding gathered_below
  Ascends-gathered zero bound given grows ascends low high = tt
  Ascends-gathered (suc n) bound given grows ascends low high =
      let earlier = Ascends-gathered n bound given grows (λ k lt. ascends k (omega arith)) (λ k lt. low k (omega arith)) (λ k lt. high k (omega arith)) in
      Ascends-append (bound n) (gathered_below n given) (given n) earlier (ascends n (omega arith))
      (All-gathered_below (λ item. key item ≤ bound n) n given (λ k lt. All-weaker (λ item. key item < bound (suc k)) (λ item. key item ≤ bound n) (λ item below. let more = grows (suc k) n (omega arith) in omega arith) (given k) (high k (omega arith))))
      (low n (omega arith))

-- what is made of items in order, if each keeps its key
pub Ascends-flat_map : {X A : Type 0} (key : X → ℕ) (other : A → ℕ) (made : X → List A) (items : List X) → ((item : X) → All (λ part. other part ≡ key item) (made item)) → Ascends key items → Ascends other (flat_map made items)
Ascends-flat_map key other made [] keeps ascends = tt
Ascends-flat_map {X} {A} key other made (item ∷ items) keeps ascends =
    Ascends-append other (key item) (made item) (flat_map made items) (Ascends-equal other (key item) (made item) (keeps item)) (Ascends-flat_map key other made items keeps ascends.1)
    (All-weaker (λ part. other part ≡ key item) (λ part. other part ≤ key item) (λ part is. omega arith) (made item) (keeps item))
    (All-flat_map (λ part. key item ≤ other part) made items (λ k d lt.
    let later : X = get_or items k d in
    let more : key item ≤ key later = ascends.0 k d lt in
    All-weaker (λ part. other part ≡ key later) (λ part. key item ≤ other part) (λ part is. omega arith) (made later) (keeps later)))

-- by another key that grows with the first
pub Ascends-by : {A : Type 0} (key other : A → ℕ) (items : List A) → ((one two : A) → key one ≤ key two → other one ≤ other two) → Ascends key items → Ascends other items
Ascends-by key other [] grows ascends = tt
Ascends-by key other (item ∷ items) grows ascends =
    (All-weaker (λ later. key item ≤ key later) (λ later. other item ≤ other later) (λ later le. grows item later le) items ascends.0, Ascends-by key other items grows ascends.1)

-- what is changed item by item, if each keeps its key
pub Ascends-map : {X A : Type 0} (key : X → ℕ) (other : A → ℕ) (change : X → A) (items : List X) → ((item : X) → other (change item) ≡ key item) → Ascends key items → Ascends other (map change items)
Ascends-map key other change [] keeps ascends = tt
Ascends-map {X} {A} key other change (item ∷ items) keeps ascends = (
  All-map (λ later. other (change item) ≤ other later) change items (λ k d lt. omega (arith, ascends.0 k d lt, keeps item, keeps (get_or items k d))),
  Ascends-map key other change items keeps ascends.1,
)

-- items with their indexes
pub Ascends-numbered : {A : Type 0} (key : A → ℕ) (index : ℕ) (items : List A) → Ascends key items → Ascends (λ (pair : ℕ × A). key pair.1) (numbered_from index items)
unfolding numbered_from
Ascends-numbered key index [] ascends = tt
Ascends-numbered {A} key index (item ∷ items) ascends = (All-numbered (λ later. key item ≤ key later) (suc index) items ascends.0, Ascends-numbered key (suc index) items ascends.1)

-- ---- what is gathered

module _ {A : Type 0} (key : A → ℕ) where
  abbrev has_key : ℕ → A → Bool
  has_key k item = key item == k

  abbrev is_below : ℕ → A → Bool
  is_below n item = ltb (key item) n

  -- no key is below n if all are n or more
  none-below : (n : ℕ) (items : List A) → All (λ item. n ≤ key item) items → filter (is_below n) items ≡ []
  none-below n [] all = refl
  none-below n (item ∷ items) all =
      let away = le-ltb (key item) n (All-head (λ item. n ≤ key item) item items all) in
      rw away (none-below n items (All-tail (λ item. n ≤ key item) item items all))

  -- all items are kept if their keys are below n
  all-below : (n : ℕ) (items : List A) → All (λ item. key item < n) items → filter (is_below n) items ≡ items
  all-below n [] all = refl
  all-below n (item ∷ items) all =
      let here = lt-ltb (key item) n (All-head (λ item. key item < n) item items all) in
      rw here (ap (λ list. item ∷ list) (all-below n items (All-tail (λ item. key item < n) item items all)))

  -- the items with a key below n + 1 are those with a key below n, and then those with the key n
  below-more : (n : ℕ) (items : List A) → Ascends key items → filter (is_below (suc n)) items ≡ filter (is_below n) items ++ filter (has_key n) items
  below-more n [] ascends = refl
  below-more n (item ∷ items) ascends =
      let rest = below-more n items ascends.1 in
      elim (cases_Bool (ltb (key item) n)) [
        | inl below ↦
            let lt : key item < n = ltb-true (key item) n below in
            let more = lt-ltb (key item) (suc n) (omega arith) in
            let other = ne_eqb (key item) n (λ same. omega arith) in
            rw (below, more, other) (ap (λ list. item ∷ list) rest)
        | inr above ↦
            let le : n ≤ key item = ltb-false (key item) n above in
            elim (cases_Bool (key item == n)) [
              | inl here ↦
                  let same : key item ≡ n = eqb-true (key item) n here in
                  let more = lt-ltb (key item) (suc n) (omega arith) in
                  let none = none-below n items (All-weaker (λ later. key item ≤ key later) (λ later. n ≤ key later) (λ later le. omega arith) items ascends.0) in
                  rw (above, more, here, none) (ap (λ list. item ∷ list) (rest ∙ rw none refl))
              | inr away ↦
                  let ne : key item ≢ n = eqb-false (key item) n away in
                  let past = le-ltb (key item) (suc n) (omega arith) in
                  rw (above, past, away) rest
            ]
      ]

  gathered-below : (n : ℕ) (items : List A) → Ascends key items → gathered_below n (λ k. filter (has_key k) items) ≡ filter (is_below n) items
  unfolding gathered_below
  gathered-below zero items ascends = sym (none-below zero items (λ k d lt. omega arith))
  gathered-below (suc n) items ascends = ap (λ list. list ++ filter (has_key n) items) (gathered-below n items ascends) ∙ sym (below-more n items ascends)

  -- an ascending list is what its keys gather
  pub gathered-by_key : (n : ℕ) (items : List A) → Ascends key items → All (λ item. key item < n) items → gathered_below n (λ k. filter (has_key k) items) ≡ items
  gathered-by_key n items ascends all = gathered-below n items ascends ∙ all-below n items all

-- ---- two keys

-- of a list in the order of rows and columns, of which there are at most 64
module _ {A : Type 0} (column row : A → ℕ) where
  abbrev pub place : A → ℕ
  place item = 64 * row item + column item

  abbrev pub is_at : ℕ → ℕ → A → Bool
  is_at x y item = (column item == x) && (row item == y)

  both : (x y : ℕ) (items : List A) → filter (is_at x y) items ≡ filter (λ item. column item == x) (filter (λ item. row item == y) items)
  both x y [] = refl
  both x y (item ∷ items) =
      elim (cases_Bool (row item == y)) [
        | inl here ↦
            elim (cases_Bool (column item == x)) [
              | inl there ↦ rw (here, there) (ap (λ list. item ∷ list) (both x y items))
              | inr away ↦ rw (here, away) (both x y items)
            ]
        | inr away ↦
            elim (cases_Bool (column item == x)) [
              | inl there ↦ rw (there, away) (both x y items)
              | inr other ↦ rw (other, away) (both x y items)
            ]
      ]

  rows-ascend : (items : List A) → All (λ item. column item < 64) items → Ascends place items → Ascends row items
  rows-ascend [] all ascends = tt
  rows-ascend (item ∷ items) all ascends =
      let rest = All-tail (λ item. column item < 64) item items all in
      (λ k d lt. omega (arith, ascends.0 k d lt, rest k d lt), rows-ascend items rest ascends.1)

  -- the items of a row come by their columns
  columns-ascend : (y : ℕ) (items : List A) → Ascends place items → Ascends column (filter (λ item. row item == y) items)
  columns-ascend y [] ascends = tt
  columns-ascend y (item ∷ items) ascends =
      elim (cases_Bool (row item == y)) [
        | inl here ↦
            let same : row item ≡ y = eqb-true (row item) y here in
            let later = All-filtered (λ later. column item ≤ column later) (λ item. row item == y) items
            (λ k d lt passes. omega (arith, ascends.0 k d lt, eqb-true _ y passes)) in
            rw here (later, columns-ascend y items ascends.1)
        | inr away ↦ rw away (columns-ascend y items ascends.1)
      ]

  -- such a list is what the places of the grid gather
  pub gathered-by_place : (width height : ℕ) (items : List A) → width ≤ 64 → All (λ item. column item < width) items → All (λ item. row item < height) items
      → Ascends place items → gathered_below height (λ y. gathered_below width (λ x. filter (is_at x y) items)) ≡ items
  gathered-by_place width height items narrow columns rows ascends =
      let each : (y : ℕ) → gathered_below width (λ x. filter (is_at x y) items) ≡ filter (λ item. row item == y) items = λ y.
      gathered_below-same width (λ x. filter (is_at x y) items) (λ x. filter (λ item. column item == x) (filter (λ item. row item == y) items)) (λ x lt. both x y items)
      ∙ gathered-by_key column width (filter (λ item. row item == y) items) (columns-ascend y items ascends) (All-filter (λ item. row item == y) (λ item. column item < width) items columns) in
      gathered_below-same height (λ y. gathered_below width (λ x. filter (is_at x y) items)) (λ y. filter (λ item. row item == y) items) (λ y lt. each y)
      ∙ gathered-by_key row height items (rows-ascend items (All-weaker (λ item. column item < width) (λ item. column item < 64) (λ item lt. omega arith) items columns) ascends) rows
