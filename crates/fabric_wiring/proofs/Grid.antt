-- What the first tile of a grid gives that gives something.
use Rattle.std.proofs.Common.{◌≡◌, ℕ, zero, suc, ◌<◌, ◌⊎◌, inl, inr, List, [], ◌∷◌, ◌++◌, refl, sym, ◌∙◌, ap, subst, arith}
use Rattle.std.specs.Prelude.{Option, Some, None}
use Rattle.index_search.specs.Places.{first_below, gathered_below, or_else}
use Rattle.index_search.proofs.Places.{first_below-none, first_below-same, first_below-first}
use Rattle.index_search.proofs.Found.{first_below-clear}
use Rattle.plane_map.specs.Layout.{grid_width, grid_height}
use Rattle.plane_map.specs.declared.device.DeviceName.{DeviceName}
use Rattle.fabric_model.specs.Tiles.{over_grid, first_of}

-- ---- the first of lists that follow one another

pub first_of-append : {A : Type 0} (one two : List A) → first_of (one ++ two) ≡ or_else (first_of one) (first_of two)
first_of-append [] two = refl
first_of-append (item ∷ one) two = refl

first_of-gathered : {A : Type 0} (n : ℕ) (given : ℕ → List A) → first_of (gathered_below n given) ≡ first_below n (λ k. first_of (given k))
unfolding gathered_below first_below
first_of-gathered zero given = refl
first_of-gathered (suc n) given =
    first_of-append (gathered_below n given) (given n) ∙ ap (λ first. or_else first (first_of (given n))) (first_of-gathered n given)

-- ---- the first place

-- a place that gives a value, and none before it gives any
record IsFirstPlace {A : Type 0} (n : ℕ) (given : ℕ → Option A) (value : A) : Type 0 where
  place : ℕ
  within : place < n
  gives : given place ≡ Some value
  before : (k : ℕ) → k < place → given k ≡ None

-- where the places before the last give that
place-by : {A : Type 0} (n : ℕ) (given : ℕ → Option A) (value : A) (first : Option A) → first_below n given ≡ first
    → ((v : A) → first_below n given ≡ Some v → IsFirstPlace n given v) → or_else first (given n) ≡ Some value → IsFirstPlace (suc n) given value
place-by n given value None none after is =
    record { place = n; within = omega arith; gives = is; before = λ k less. first_below-clear n k given none less }
place-by n given value (Some earlier) some after is =
    let same : earlier ≡ value = cc in
    let found = after value (some ∙ ap Some same) in
    record { place = found.place; within = omega (arith, found.within); gives = found.gives; before = found.before }

first-place : {A : Type 0} (n : ℕ) (given : ℕ → Option A) (value : A) → first_below n given ≡ Some value → IsFirstPlace n given value
unfolding first_below
first-place zero given value is = absurd cc
first-place (suc n) given value is = place-by n given value (first_below n given) refl (λ v. first-place n given v) is

-- ---- the first tile

-- whether the tile at (a, b) goes before that at (x, y)
abbrev pub GoesBefore : ℕ → ℕ → ℕ → ℕ → Type 0
GoesBefore a b x y = (b < y) ⊎ ((b ≡ y) × (a < x))

-- what the first tile gives, by rows and then by columns
abbrev pub first_tile : {A : Type 0} → DeviceName → (ℕ → ℕ → Option A) → Option A
first_tile device given = first_below (grid_height device) (λ y. first_below (grid_width device) (λ x. given x y))

-- a tile that gives a value, and none before it gives any
pub record IsFirstTile {A : Type 0} (device : DeviceName) (given : ℕ → ℕ → Option A) (x y : ℕ) (value : A) : Type 0 where
  pub left : x < grid_width device
  pub low : y < grid_height device
  pub gives : given x y ≡ Some value
  pub before : (a b : ℕ) → a < grid_width device → b < grid_height device → GoesBefore a b x y → given a b ≡ None

module _ {A : Type 0} (device : DeviceName) (given : ℕ → ℕ → Option A) where
  pub tile-first : (x y : ℕ) (value : A) → IsFirstTile device given x y value → first_tile device given ≡ Some value
  tile-first x y value is =
      first_below-first (grid_height device) y (λ b. first_below (grid_width device) (λ a. given a b)) value is.low
      (λ b less. first_below-none (grid_width device) (λ a. given a b) (λ a left. is.before a b left (omega (arith, less, is.low)) (inl less)))
      (first_below-first (grid_width device) x (λ a. given a y) value is.left
      (λ a less. is.before a y (omega (arith, less, is.left)) is.low (inr (refl, less))) is.gives)

  pub tile-none : ((a b : ℕ) → a < grid_width device → b < grid_height device → given a b ≡ None) → first_tile device given ≡ None
  tile-none none =
      first_below-none (grid_height device) (λ b. first_below (grid_width device) (λ a. given a b))
      (λ b low. first_below-none (grid_width device) (λ a. given a b) (λ a left. none a b left low))

  pub first-tile : (value : A) → first_tile device given ≡ Some value → (x : ℕ) × (y : ℕ) × IsFirstTile device given x y value
  first-tile value is =
      let row = first-place (grid_height device) (λ b. first_below (grid_width device) (λ a. given a b)) value is in
      let column = first-place (grid_width device) (λ a. given a row.place) value row.gives in (
        column.place,
        row.place,
        record {
          left = column.within;
          low = row.within;
          gives = column.gives;
          before = λ a b left low goes. elim goes [
            | inl less ↦ first_below-clear (grid_width device) a (λ x. given x b) (row.before b less) left
            | inr here ↦ subst (λ y. given a y ≡ None) (sym here.0) (column.before a here.1)
          ];
        },
      )

  pub none-tile : first_tile device given ≡ None → (a b : ℕ) → a < grid_width device → b < grid_height device → given a b ≡ None
  none-tile none a b left low =
      first_below-clear (grid_width device) a (λ x. given x b)
      (first_below-clear (grid_height device) b (λ y. first_below (grid_width device) (λ x. given x y)) none low) left

-- the first of what all tiles give
pub first_of-grid : {A : Type 0} (device : DeviceName) (given : ℕ → ℕ → List A) → first_of (over_grid device given) ≡ first_tile device (λ x y. first_of (given x y))
unfolding over_grid
first_of-grid device given =
    first_of-gathered (grid_height device) (λ y. gathered_below (grid_width device) (λ x. given x y))
    ∙ first_below-same (grid_height device) (λ y. first_of (gathered_below (grid_width device) (λ x. given x y))) (λ y. first_below (grid_width device) (λ x. first_of (given x y)))
    (λ y low. first_of-gathered (grid_width device) (λ x. given x y))
