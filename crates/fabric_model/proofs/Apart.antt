-- Lists in which each item is distinct from all after it.
use Rattle.std.proofs.Common.{◌≡◌, ◌≢◌, ℕ, zero, suc, ◌<◌, ◌≤◌, Bool, true, false, List, [], ◌∷◌, ◌++◌, map, arith}
use Rattle.std.specs.Prelude.{All, Contains, filter, if◌then◌else◌}
use Rattle.std.specs.List.{flat_map}
use Rattle.std.proofs.lemmas.List.Elements.{All-nil, All-cons, All-head, All-tail, All-append, All-filter, All-map, All-contains, All-contains_itself, All-weaker}
use Rattle.index_search.specs.Places.{gathered_below}
use Rattle.index_search.proofs.Gathered.{All-gathered_below}
use Rattle.plane_map.specs.Layout.{kind_of, grid_width, grid_height}
use Rattle.plane_map.specs.declared.device.DeviceName.{DeviceName}
use Rattle.plane_map.specs.declared.tile.TileKind.{TileKind}
use Rattle.chipdb_lines.specs.Statements.{is_kind_there}
use Rattle.fabric_model.specs.Tiles.{over_grid, over_tiles, at_kind, item_if}
use Rattle.fabric_model.specs.Fabric.{numbered_from}
use Rattle.fabric_model.proofs.Within.{All-flat_map, All-if, All-numbered}

-- each item has the relation to all after it
abbrev pub AreApart : {A : Type 0} → (A → A → Type 0) → List A → Type 0
AreApart R [] = Unit {0}
AreApart R (x ∷ xs) = All (R x) xs × AreApart R xs

-- ---- lists that are made from others

-- what holds of everything
pub All-every : {A : Type 0} (P : A → Type 0) → ((x : A) → P x) → (xs : List A) → All P xs
All-every P each xs = All-weaker (Contains xs) P (λ x there. each x) xs (All-contains_itself xs)

module _ {A : Type 0} (R : A → A → Type 0) where
  pub apart-single : (x : A) → AreApart R (x ∷ [])
  apart-single x = (All-nil (R x), tt)

  pub apart-if : (passes : Bool) (xs : List A) → AreApart R xs → AreApart R (if passes then xs else [])
  apart-if true xs apart = apart
  apart-if false xs apart = tt

  pub apart-unless : (passes : Bool) (xs : List A) → AreApart R xs → AreApart R (if passes then [] else xs)
  apart-unless true xs apart = tt
  apart-unless false xs apart = apart

  pub apart-item_if : (passes : Bool) (item : A) → AreApart R (item_if passes item)
  apart-item_if passes item = apart-if passes (item ∷ []) (apart-single item)

  pub apart-append : (xs ys : List A) → AreApart R xs → AreApart R ys → All (λ x. All (R x) ys) xs → AreApart R (xs ++ ys)
  apart-append [] ys one two across = two
  apart-append (x ∷ xs) ys one two across = (
    All-append (R x) xs ys one.0 (All-head (λ z. All (R z) ys) x xs across),
    apart-append xs ys one.1 two (All-tail (λ z. All (R z) ys) x xs across),
  )

  pub apart-weaker : (S : A → A → Type 0) → ((x y : A) → R x y → S x y) → (xs : List A) → AreApart R xs → AreApart S xs
  apart-weaker S so [] apart = tt
  apart-weaker S so (x ∷ xs) apart = (All-weaker (R x) (S x) (so x) xs apart.0, apart-weaker S so xs apart.1)

  kept-if : (passes : Bool) (x : A) (xs : List A) → All (R x) xs → AreApart R xs → AreApart R (if passes then x ∷ xs else xs)
  kept-if true x xs first apart = (first, apart)
  kept-if false x xs first apart = apart

  pub apart-filter : (test : A → Bool) (xs : List A) → AreApart R xs → AreApart R (filter test xs)
  apart-filter test [] apart = tt
  apart-filter test (x ∷ xs) apart = kept-if (test x) x (filter test xs) (All-filter test (R x) xs apart.0) (apart-filter test xs apart.1)

  pub apart-map : {X : Type 0} (f : X → A) (xs : List X) → AreApart (λ x y. R (f x) (f y)) xs → AreApart R (map f xs)
  apart-map f [] apart = tt
  apart-map f (x ∷ xs) apart = (All-map (R (f x)) f xs apart.0, apart-map f xs apart.1)

  -- what items give that are apart by another relation
  pub apart-flat_map : {X : Type 0} (Q : X → X → Type 0) (given : X → List A) → ((x y : X) → Q x y → All (λ a. All (R a) (given y)) (given x)) → ((x : X) → AreApart R (given x))
      → (xs : List X) → AreApart Q xs → AreApart R (flat_map given xs)
  apart-flat_map Q given across inside [] apart = tt
  apart-flat_map Q given across inside (x ∷ xs) apart =
      apart-append (given x) (flat_map given xs) (inside x) (apart-flat_map Q given across inside xs apart.1)
      (All-weaker (Contains (given x)) (λ a. All (R a) (flat_map given xs))
      (λ a there. All-flat_map (R a) given xs
      (All-weaker (Q x) (λ y. All (R a) (given y)) (λ y other. All-contains (λ b. All (R b) (given y)) (given x) a (across x y other) there) xs apart.0))
      (given x) (All-contains_itself (given x)))

  -- what the places below a bound give, if items of two places differ in a number that tells the place
  pub apart-gathered : (P : A → Type 0) (key : A → ℕ) → ((a b : A) → P a → P b → key a ≢ key b → R a b)
      → (n : ℕ) (given : ℕ → List A) → ((k : ℕ) → k < n → All (λ a. P a × (key a ≡ k)) (given k)) → ((k : ℕ) → k < n → AreApart R (given k))
      → AreApart R (gathered_below n given)
  unfolding gathered_below
  apart-gathered P key differ zero given at each = tt
  apart-gathered P key differ (suc n) given at each =
      apart-append (gathered_below n given) (given n)
      (apart-gathered P key differ n given (λ k less. at k (omega arith)) (λ k less. each k (omega arith))) (each n (omega arith))
      (All-gathered_below (λ a. All (R a) (given n)) n given
      (λ k less. All-weaker (λ a. P a × (key a ≡ k)) (λ a. All (R a) (given n))
      (λ a of_a. All-weaker (λ b. P b × (key b ≡ n)) (R a)
      (λ b of_b. differ a b of_a.0 of_b.0 (λ same. absurd (omega (arith, of_a.1, of_b.1, same, less)))) (given n) (at n (omega arith)))
      (given k) (at k (omega arith))))

  -- what the tiles of a kind give, if items of two tiles differ in their columns or rows
  pub apart-over_tiles : (P : A → Type 0) (left low : A → ℕ) → ((a b : A) → P a → P b → left a ≢ left b → R a b) → ((a b : A) → P a → P b → low a ≢ low b → R a b)
      → (device : DeviceName) (kind : TileKind) (given : ℕ → ℕ → List A)
      → ((x y : ℕ) → x < grid_width device → y < grid_height device → All (λ a. P a × (left a ≡ x) × (low a ≡ y)) (given x y))
      → ((x y : ℕ) → x < grid_width device → y < grid_height device → AreApart R (given x y))
      → AreApart R (over_tiles device kind given)
  unfolding over_grid
  apart-over_tiles P left low by_left by_low device kind given at each =
      let there : (x y : ℕ) → x < grid_width device → y < grid_height device → All (λ a. P a × (left a ≡ x) × (low a ≡ y)) (at_kind device kind given x y) =
      λ x y of_x of_y. All-if (λ a. P a × (left a ≡ x) × (low a ≡ y)) (is_kind_there kind (kind_of device x y)) (given x y) (at x y of_x of_y) in
      apart-gathered P low by_low (grid_height device) (λ y. gathered_below (grid_width device) (λ x. at_kind device kind given x y))
      (λ y of_y. All-gathered_below (λ a. P a × (low a ≡ y)) (grid_width device) (λ x. at_kind device kind given x y)
      (λ x of_x. All-weaker (λ a. P a × (left a ≡ x) × (low a ≡ y)) (λ a. P a × (low a ≡ y)) (λ a found. (found.0, found.2)) (at_kind device kind given x y) (there x y of_x of_y)))
      (λ y of_y. apart-gathered P left by_left (grid_width device) (λ x. at_kind device kind given x y)
      (λ x of_x. All-weaker (λ a. P a × (left a ≡ x) × (low a ≡ y)) (λ a. P a × (left a ≡ x)) (λ a found. (found.0, found.1)) (at_kind device kind given x y) (there x y of_x of_y))
      (λ x of_x. apart-if (is_kind_there kind (kind_of device x y)) (given x y) (each x y of_x of_y)))

-- ---- items with their places

numbered-after : {A : Type 0} (place : ℕ) (items : List A) → All (λ (pair : ℕ × A). place ≤ pair.0) (numbered_from place items)
unfolding numbered_from
numbered-after {A} place [] = All-nil (λ (pair : ℕ × A). place ≤ pair.0)
numbered-after {A} place (item ∷ items) =
    All-cons (λ (pair : ℕ × A). place ≤ pair.0) (place, item) (numbered_from (suc place) items) (omega arith)
    (All-weaker (λ (pair : ℕ × A). suc place ≤ pair.0) (λ (pair : ℕ × A). place ≤ pair.0) (λ pair after. omega (arith, after)) (numbered_from (suc place) items) (numbered-after (suc place) items))

-- places are apart
pub numbered-apart : {A : Type 0} (place : ℕ) (items : List A) → AreApart (λ (one two : ℕ × A). one.0 ≢ two.0) (numbered_from place items)
unfolding numbered_from
numbered-apart place [] = tt
numbered-apart {A} place (item ∷ items) = (
  All-weaker (λ (pair : ℕ × A). suc place ≤ pair.0) (λ (pair : ℕ × A). place ≢ pair.0) (λ pair after. λ same. absurd (omega (arith, after, same))) (numbered_from (suc place) items) (numbered-after (suc place) items),
  numbered-apart (suc place) items,
)

-- items that are apart are so with their places
pub apart-numbered : {A : Type 0} (R : A → A → Type 0) (place : ℕ) (items : List A) → AreApart R items → AreApart (λ (one two : ℕ × A). R one.1 two.1) (numbered_from place items)
unfolding numbered_from
apart-numbered R place [] apart = tt
apart-numbered R place (item ∷ items) apart = (All-numbered (R item) (suc place) items apart.0, apart-numbered R (suc place) items apart.1)
