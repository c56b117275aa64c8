-- The first of some users in the order of tiles, with one more.
use Rattle.std.proofs.Common.{◌≡◌, ℕ, ◌<◌, Bool, true, false, inl, inr, List, [], ◌∷◌, ◌++◌, refl, sym, ◌∙◌, ap, subst, arith, eq-eqb}
use Rattle.std.specs.Prelude.{Option, Some, None, filter, ◌&&◌, ◌==◌, nat_lt, if◌then◌else◌}
use Rattle.std.proofs.lemmas.Bool.{cases_Bool, eqb-true, ltb-true, lt-ltb, or_cases, or_left, or_right, and_from}
use Rattle.std.proofs.lemmas.List.Elements.{filter-append}
use Rattle.shared_lemmas.proofs.Tests.{first_true, second_true}
use Rattle.index_search.specs.Places.{or_else}
use Rattle.plane_map.specs.Layout.{grid_width, grid_height}
use Rattle.plane_map.specs.declared.device.DeviceName.{DeviceName}
use Rattle.fabric_model.specs.Tiles.{first_of}
use Rattle.fabric_wiring.specs.declared.users.Unclocked.{Unclocked}
use Rattle.fabric_wiring.specs.First.{is_at, first_on, is_on_grid, is_before, is_before_any}
use Rattle.fabric_wiring.proofs.Grid.{GoesBefore, first_tile, first_of-append, first_of-grid, tile-first, tile-none, first-tile, none-tile}

-- the first of some at a tile
first_at : List Unclocked → ℕ → ℕ → Option Unclocked
first_at list x y = first_of (filter (is_at x y) list)

first_on-tiles : (device : DeviceName) (list : List Unclocked) → first_on device list ≡ first_tile device (first_at list)
unfolding first_on first_at
first_on-tiles device list = first_of-grid device (λ x y. filter (is_at x y) list)

-- ---- at a tile

filter-first : (test : Unclocked → Bool) (list : List Unclocked) (first : Unclocked) → first_of (filter test list) ≡ Some first → test first ≡ true
filter-first test [] first is = absurd cc
filter-first test (item ∷ list) first is = elim (cases_Bool (test item)) [
  | inl passes ↦
      let there : Some item ≡ Some first = rw passes at is in
      let same : item ≡ first = cc in
      subst (λ i. test i ≡ true) same passes
  | inr fails ↦ filter-first test list first (rw fails at is)
]

-- the first at a tile stands there
at-x : (list : List Unclocked) (x y : ℕ) (first : Unclocked) → first_at list x y ≡ Some first → first.x ≡ x
unfolding first_at
at-x list x y first is = eqb-true first.x x (first_true (first.x == x) (first.y == y) (filter-first (is_at x y) list first is))

at-y : (list : List Unclocked) (x y : ℕ) (first : Unclocked) → first_at list x y ≡ Some first → first.y ≡ y
unfolding first_at
at-y list x y first is = eqb-true first.y y (second_true (first.x == x) (first.y == y) (filter-first (is_at x y) list first is))

module _ (list : List Unclocked) (next : Unclocked) where
  at-more : (x y : ℕ) → first_at (list ++ next ∷ []) x y ≡ or_else (first_at list x y) (first_at (next ∷ []) x y)
  unfolding first_at
  at-more x y = ap first_of (filter-append (is_at x y) list (next ∷ [])) ∙ first_of-append (filter (is_at x y) list) (filter (is_at x y) (next ∷ []))

  next-by : (x y : ℕ) (here : Bool) → is_at x y next ≡ here → first_at (next ∷ []) x y ≡ first_of (if here then next ∷ [] else [])
  unfolding first_at
  next-by x y here is = rw is refl

  next-here : first_at (next ∷ []) next.x next.y ≡ Some next
  next-here = next-by next.x next.y true (and_from (next.x == next.x) (next.y == next.y) (eq-eqb next.x next.x refl) (eq-eqb next.y next.y refl))

  -- a tile at which neither the others nor this one is
  clear-more : (x y : ℕ) → first_at list x y ≡ None → ((next.x ≡ x) → (next.y ≡ y) → ⊥) → first_at (list ++ next ∷ []) x y ≡ None
  clear-more x y clear apart =
      at-more x y ∙ (ap (λ first. or_else first (first_at (next ∷ []) x y)) clear ∙ elim (cases_Bool (is_at x y next)) [
        | inl at ↦ absurd (apart (eqb-true next.x x (first_true (next.x == x) (next.y == y) at)) (eqb-true next.y y (second_true (next.x == x) (next.y == y) at)))
        | inr away ↦ next-by x y false away
      ])

  first-more : (x y : ℕ) (first : Unclocked) → first_at list x y ≡ Some first → first_at (list ++ next ∷ []) x y ≡ Some first
  first-more x y first is = at-more x y ∙ ap (λ found. or_else found (first_at (next ∷ []) x y)) is

  next-more : first_at list next.x next.y ≡ None → first_at (list ++ next ∷ []) next.x next.y ≡ Some next
  next-more clear = at-more next.x next.y ∙ (ap (λ found. or_else found (first_at (next ∷ []) next.x next.y)) clear ∙ next-here)

-- ---- tests of tiles

before-goes : (one two : Unclocked) → is_before one two ≡ true → GoesBefore one.x one.y two.x two.y
before-goes one two passes = elim (or_cases (nat_lt one.y two.y) ((one.y == two.y) && nat_lt one.x two.x) passes) [
  | inl lower ↦ inl (ltb-true one.y two.y lower)
  | inr same ↦ inr (eqb-true one.y two.y (first_true (one.y == two.y) (nat_lt one.x two.x) same), ltb-true one.x two.x (second_true (one.y == two.y) (nat_lt one.x two.x) same))
]

goes-before : (one two : Unclocked) → GoesBefore one.x one.y two.x two.y → is_before one two ≡ true
goes-before one two (inl lower) = or_left (nat_lt one.y two.y) ((one.y == two.y) && nat_lt one.x two.x) (lt-ltb one.y two.y lower)
goes-before one two (inr same) =
    or_right (nat_lt one.y two.y) ((one.y == two.y) && nat_lt one.x two.x)
    (and_from (one.y == two.y) (nat_lt one.x two.x) (eq-eqb one.y two.y same.0) (lt-ltb one.x two.x same.1))

goes-then : {a b c d x y : ℕ} → GoesBefore a b c d → GoesBefore c d x y → GoesBefore a b x y
goes-then (inl less) (inl more) = inl (omega (arith, less, more))
goes-then (inl less) (inr same) = inl (omega (arith, less, same.0))
goes-then (inr same) (inl more) = inl (omega (arith, same.0, more))
goes-then (inr same) (inr also) = inr (omega (arith, same.0, also.0), omega (arith, same.1, also.1))

goes-same : {a b c d x y z w : ℕ} → GoesBefore a b c d → x ≡ a → y ≡ b → z ≡ c → w ≡ d → GoesBefore x y z w
goes-same (inl less) same_a same_b same_c same_d = inl (omega (arith, less, same_b, same_d))
goes-same (inr same) same_a same_b same_c same_d = inr (omega (arith, same.0, same_b, same_d), omega (arith, same.1, same_a, same_c))

on-grid : (device : DeviceName) (one : Unclocked) → one.x < grid_width device → one.y < grid_height device → is_on_grid device one ≡ true
on-grid device one left low =
    and_from (nat_lt one.x (grid_width device)) (nat_lt one.y (grid_height device)) (lt-ltb one.x (grid_width device) left) (lt-ltb one.y (grid_height device) low)

-- ---- with one more

module _ (device : DeviceName) (list : List Unclocked) (next : Unclocked) where
  -- on the grid, and no other stands there or before
  next-first : is_on_grid device next ≡ true → ((a b : ℕ) → a < grid_width device → b < grid_height device → GoesBefore a b next.x next.y → first_at list a b ≡ None)
      → first_at list next.x next.y ≡ None → first_on device (list ++ next ∷ []) ≡ Some next
  next-first grid clear here =
      first_on-tiles device (list ++ next ∷ []) ∙ tile-first device (first_at (list ++ next ∷ [])) next.x next.y next (record {
        left = ltb-true next.x (grid_width device) (first_true (nat_lt next.x (grid_width device)) (nat_lt next.y (grid_height device)) grid);
        low = ltb-true next.y (grid_height device) (second_true (nat_lt next.x (grid_width device)) (nat_lt next.y (grid_height device)) grid);
        gives = next-more list next here;
        before = λ a b left low goes. clear-more list next a b (clear a b left low goes) (λ same_x same_y. elim goes [
          | inl lower ↦ omega (arith, lower, same_y)
          | inr same ↦ omega (arith, same.1, same_x)
        ]);
      })

  -- it is the first if it comes before what was found
  pub sooner : (found : Option Unclocked) → is_on_grid device next ≡ true → is_before_any next found ≡ true
      → found ≡ first_on device list → Some next ≡ first_on device (list ++ next ∷ [])
  sooner None grid before is =
      let clear = none-tile device (first_at list) (sym (is ∙ first_on-tiles device list)) in
      let left = ltb-true next.x (grid_width device) (first_true (nat_lt next.x (grid_width device)) (nat_lt next.y (grid_height device)) grid) in
      let low = ltb-true next.y (grid_height device) (second_true (nat_lt next.x (grid_width device)) (nat_lt next.y (grid_height device)) grid) in
      sym (next-first grid (λ a b a_left b_low goes. clear a b a_left b_low) (clear next.x next.y left low))
  sooner (Some first) grid before is =
      let tile = first-tile device (first_at list) first (sym (is ∙ first_on-tiles device list)) in
      let same_x = at-x list tile.0 tile.1 first tile.2.gives in
      let same_y = at-y list tile.0 tile.1 first tile.2.gives in
      let left = ltb-true next.x (grid_width device) (first_true (nat_lt next.x (grid_width device)) (nat_lt next.y (grid_height device)) grid) in
      let low = ltb-true next.y (grid_height device) (second_true (nat_lt next.x (grid_width device)) (nat_lt next.y (grid_height device)) grid) in
      let goes_first : GoesBefore next.x next.y tile.0 tile.1 =
      subst (λ x. GoesBefore next.x next.y x tile.1) same_x (subst (λ y. GoesBefore next.x next.y first.x y) same_y (before-goes next first before)) in
      sym (next-first grid (λ a b a_left b_low goes. tile.2.before a b a_left b_low (goes-then goes goes_first)) (tile.2.before next.x next.y left low goes_first))

  -- else what was found is
  pub no-sooner : (found : Option Unclocked) → (is_on_grid device next ≡ true → is_before_any next found ≡ true → ⊥)
      → found ≡ first_on device list → found ≡ first_on device (list ++ next ∷ [])
  no-sooner None not_before is =
      let clear = none-tile device (first_at list) (sym (is ∙ first_on-tiles device list)) in
      sym (first_on-tiles device (list ++ next ∷ []) ∙ tile-none device (first_at (list ++ next ∷ []))
      (λ a b left low. clear-more list next a b (clear a b left low) (λ same_x same_y. not_before (on-grid device next (omega (arith, left, same_x)) (omega (arith, low, same_y))) refl)))
  no-sooner (Some first) not_before is =
      let tile = first-tile device (first_at list) first (sym (is ∙ first_on-tiles device list)) in
      let same_x = at-x list tile.0 tile.1 first tile.2.gives in
      let same_y = at-y list tile.0 tile.1 first tile.2.gives in
      sym (first_on-tiles device (list ++ next ∷ []) ∙ tile-first device (first_at (list ++ next ∷ [])) tile.0 tile.1 first (record {
        left = tile.2.left;
        low = tile.2.low;
        gives = first-more list next tile.0 tile.1 first tile.2.gives;
        before = λ a b left low goes. clear-more list next a b (tile.2.before a b left low goes) (λ next_x next_y.
            not_before (on-grid device next (omega (arith, left, next_x)) (omega (arith, low, next_y)))
            (goes-before next first (goes-same goes next_x next_y same_x same_y)));
      }))
