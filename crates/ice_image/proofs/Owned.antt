-- The places of the bits of tiles, by tests and by facts.
use Rattle.std.proofs.Common.{◌≡◌, ℕ, ◌<◌, ◌⊎◌, ◌==◌, Bool, true, false, ◌&&◌, Option, Some, None, refl, sym, ap, ◌∙◌, inl, inr, eq-eqb}
use Rattle.std.specs.Prelude.{MatchOption, is_some}
use Rattle.std.specs.Bool.{Decides}
use Rattle.std.proofs.lemmas.Bool.{and_parts, both_ways, cases_Bool, eqb-true}
use Rattle.index_search.specs.Places.{any_below}
use Rattle.index_search.proofs.Places.{any_below-at, any_below-place}
use Rattle.plane_map.specs.declared.tile.Place.{Place}
use Rattle.plane_map.specs.declared.tile.TileBit.{TileBit}
use Rattle.plane_map.specs.Layout.{Layout, grid_width, grid_height, columns_at, place_of, IsTileBit, IsExtraBit}
use Rattle.plane_map.proofs.Layouts.{columns_at-in}
use Rattle.ice_image.specs.Contents.{tile_place}
use Rattle.ice_image.specs.Owned.{is_same_place, is_owned}
use Rattle.ice_image.specs.Written.{IsAmong}

-- ---- one place

-- places that pass the test are one
pub is_same_place-same : (a b : Place) → is_same_place a b ≡ true → a ≡ b
is_same_place-same a b is =
    let outer = and_parts ((a.bank == b.bank) && (a.px == b.px)) (a.py == b.py) is in
    let inner = and_parts (a.bank == b.bank) (a.px == b.px) outer.0 in
    let bank : a.bank ≡ b.bank = eqb-true _ _ inner.0 in
    let px : a.px ≡ b.px = eqb-true _ _ inner.1 in
    let py : a.py ≡ b.py = eqb-true _ _ outer.1 in
    λ i. record { bank = bank i; px = px i; py = py i }

-- a place passes it with itself
pub is_same_place-self : (a : Place) → is_same_place a a ≡ true
is_same_place-self a = rw (eq-eqb a.bank a.bank refl, eq-eqb a.px a.px refl, eq-eqb a.py a.py refl) refl

-- a place is among some, or it isn't
pub among : (places : ℕ → Place) (count : ℕ) (at : Place) → IsAmong places count at ⊎ ¬ IsAmong places count at
among places count at =
    let here : ℕ → Bool = λ k. is_same_place (places k) at in
    elim (cases_Bool (any_below count here)) [
      | inl some ↦ let found = any_below-place count here some in inl (found.0, found.1, is_same_place-same (places found.0) at found.2)
      | inr none ↦ inr (λ h. both_ways (any_below count here) none (any_below-at count h.0 here h.1 (ap (λ (p : Place). is_same_place p at) h.2 ∙ is_same_place-self at)))
    ]

-- so it is passed exactly if the places are equal
pub is_same_place-Decides : (a b : Place) → Decides (is_same_place a b) (a ≡ b)
is_same_place-Decides a b = (is_same_place-same a b, λ e. ap (is_same_place a) (sym e) ∙ is_same_place-self a)

-- ---- a bit of a tile

-- a bit of a tile lies at its place
pub is_owned-tile_place : (layout : Layout) (x y row col : ℕ) → row < 16 → col < columns_at layout.device x y → is_owned layout (tile_place layout x y row col) ≡ true
unfolding is_owned
is_owned-tile_place layout x y row col row_in col_in =
    let inside = columns_at-in layout.device x y col col_in in
    any_below-at (grid_width layout.device) x _ inside.0
    (any_below-at (grid_height layout.device) y _ inside.1
    (any_below-at 16 row _ row_in
    (any_below-at (columns_at layout.device x y) col _ col_in (is_same_place-self (tile_place layout x y row col)))))

-- the same by the bit
pub is_owned-bit : (layout : Layout) (bit : TileBit) → IsTileBit layout.device bit → is_owned layout (place_of layout bit) ≡ true
is_owned-bit layout bit is = is_owned-tile_place layout bit.x bit.y bit.row bit.col is.row_in is.col_in

-- if a bit of some tile lies at a place, here is one
pub is_owned-bit_at : (layout : Layout) (at : Place) → is_owned layout at ≡ true → (bit : TileBit) × IsTileBit layout.device bit × (place_of layout bit ≡ at)
unfolding is_owned
is_owned-bit_at layout at is =
    let x = any_below-place (grid_width layout.device) _ is in
    let y = any_below-place (grid_height layout.device) _ x.2 in
    let row = any_below-place 16 _ y.2 in
    let col = any_below-place (columns_at layout.device x.0 y.0) _ row.2 in
    let bit : TileBit = record { x = x.0; y = y.0; row = row.0; col = col.0 } in
    (bit, record { row_in = row.1; col_in = col.1 }, is_same_place-same (place_of layout bit) at col.2)

-- a place that no bit of a tile has
pub is_owned-extra : (layout : Layout) (at : Place) → IsExtraBit layout at → is_owned layout at ≡ false
is_owned-extra layout at extra =
    elim (cases_Bool (is_owned layout at)) [
      | inl owned ↦ let bit = is_owned-bit_at layout at owned in absurd (extra bit.0 bit.1 bit.2)
      | inr free ↦ free
    ]

-- and no other place fails the test
pub extra-is_owned : (layout : Layout) (at : Place) → is_owned layout at ≡ false → IsExtraBit layout at
extra-is_owned layout at free bit is here =
    absurd (cc (sym free ∙ ap (is_owned layout) (sym here) ∙ is_owned-bit layout bit is))

-- what an answer says that is a place's owner
pub is_owned-answer : (layout : Layout) (at : Place) (owner : Option TileBit)
    → MatchOption owner (IsExtraBit layout at) (λ bit. IsTileBit layout.device bit × (place_of layout bit ≡ at)) → is_some owner ≡ is_owned layout at
is_owned-answer layout at (Some bit) h = sym (ap (is_owned layout) (sym h.1) ∙ is_owned-bit layout bit h.0)
is_owned-answer layout at None h = sym (is_owned-extra layout at h)
