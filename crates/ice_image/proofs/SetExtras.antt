-- The set bits that are no tile's, as a list.
use Rattle.std.proofs.Common.{◌≡◌, ℕ, ◌<◌, Bool, true, false, not, ◌&&◌, List, [], ◌∷◌, get_or, Contains, refl, sym, ap, ◌∙◌, subst, inl, inr, arith}
use Rattle.std.specs.Prelude.{if◌then◌else◌}
use Rattle.std.specs.List.{AllPairs}
use Rattle.std.proofs.lemmas.Bool.{and_parts, not-true}
use Rattle.index_search.proofs.Gathered.{gathered_below-place, Contains-gathered_below}
use Rattle.index_search.specs.Places.{gathered_below}
use Rattle.plane_map.specs.Layout.{cram_width, cram_height}
use Rattle.plane_map.specs.declared.tile.Place.{Place}
use Rattle.ice_image.specs.Configuration.{Configuration, place_bit}
use Rattle.ice_image.specs.Extras.{IsBefore, IsSetExtra, AreSetExtras}
use Rattle.ice_image.specs.Bits.{Extra, bit_of, set_extras}
use Rattle.ice_image.specs.Owned.{is_owned, is_extra}
use Rattle.ice_image.proofs.Bits.{extra_in, extra_from}
use Rattle.ice_image.proofs.Owned.{is_owned-extra, extra-is_owned}
use Rattle.ice_image.proofs.Lists.{ordered-gathered, ordered-same}

-- no place is before one that is before it
before-strict : (a b : Place) → IsBefore a b → IsBefore b a → ⊥
before-strict a b before after =
    elim before [
      | inl bank ↦ elim after [ inl other ↦ omega arith | inr other ↦ omega (arith, other.0) ]
      | inr h ↦ elim after [
        | inl other ↦ omega (arith, h.0)
        | inr k ↦ elim h.1 [
          | inl row ↦ elim k.1 [ inl other ↦ omega arith | inr other ↦ omega (arith, other.0) ]
          | inr column ↦ elim k.1 [ inl other ↦ omega (arith, column.0) | inr other ↦ omega (arith, column.1, other.1) ]
        ]
      ]
    ]

-- the place of a bank's column and row
abbrev place : ℕ → ℕ → ℕ → Place
place bank px py = record { bank = bank; px = px; py = py }

-- one place is in order
alone_ordered : (test : Bool) (here : Place) → AllPairs IsBefore (if test then here ∷ [] else [])
alone_ordered true here i j d before inside = absurd (omega (arith, before, inside))
alone_ordered false here i j d before inside = absurd (omega (arith, inside))

and_true : (a b : Bool) → a ≡ true → b ≡ false → (a && not b) ≡ true
and_true a b is is_not = rw (is, is_not) refl

module _ (image : Configuration) where
  -- whether a bit is set and no tile's
  abbrev is_set_extra : Place → Bool
  is_set_extra at = place_bit image.cram at && not (is_owned image.layout at)

  -- a place if its bit is a set extra bit
  abbrev extra_at : Place → List Place
  extra_at at = if is_set_extra at then at ∷ [] else []

  -- those of a row, of a bank, and all
  abbrev extras_of_row : ℕ → ℕ → List Place
  extras_of_row bank py = gathered_below (cram_width image.layout.device) (λ px. extra_at (place bank px py))

  abbrev extras_of_bank : ℕ → List Place
  extras_of_bank bank = gathered_below (cram_height image.layout.device) (λ py. extras_of_row bank py)

  abbrev all_extras : List Place
  all_extras = gathered_below 4 extras_of_bank

  -- ---- members

  at_test : (test : Bool) (here at : Place) → Contains (if test then here ∷ [] else []) at → (test ≡ true) × (here ≡ at)
  at_test true here at is = (refl, let e : is.0 ≡ 0 = omega (arith, is.1) in subst (λ (k : ℕ). get_or (here ∷ []) k at ≡ at) e is.2)
  at_test false here at is = absurd (omega (arith, is.1))

  in_row : (bank py : ℕ) (at : Place) → Contains (extras_of_row bank py) at → (at.px < cram_width image.layout.device) × (place bank at.px py ≡ at) × (is_set_extra at ≡ true)
  in_row bank py at is =
      let found = gathered_below-place (cram_width image.layout.device) (λ px. extra_at (place bank px py)) at is in
      let test = at_test (is_set_extra (place bank found.0 py)) (place bank found.0 py) at found.2 in
      let column : found.0 ≡ at.px = ap (λ (at : Place). at.px) test.1 in (
        omega (arith, found.1, column),
        ap (λ px. place bank px py) (sym column) ∙ test.1,
        ap is_set_extra (sym test.1) ∙ test.0,
      )

  in_bank : (bank : ℕ) (at : Place) → Contains (extras_of_bank bank) at → (at.py < cram_height image.layout.device) × (at.px < cram_width image.layout.device) × (bank ≡ at.bank) × (is_set_extra at ≡ true)
  in_bank bank at is =
      let found = gathered_below-place (cram_height image.layout.device) (λ py. extras_of_row bank py) at is in
      let row = in_row bank found.0 at found.2 in
      let py : found.0 ≡ at.py = ap (λ (at : Place). at.py) row.1 in
      (omega (arith, found.1, py), row.0, ap (λ (at : Place). at.bank) row.1, row.2)

  -- each of them is a set bit that is no tile's
  in_all : (at : Place) → Contains all_extras at → IsSetExtra image.layout image.cram at
  in_all at is =
      let found = gathered_below-place 4 extras_of_bank at is in
      let bank = in_bank found.0 at found.2 in
      let test = and_parts (place_bit image.cram at) (not (is_owned image.layout at)) bank.3 in
      record {
        inside = record { bank_in = omega (arith, found.1, bank.2); px_in = bank.1; py_in = bank.0 };
        is_set = test.0;
        extra = extra-is_owned image.layout at (not-true (is_owned image.layout at) test.1);
      }

  -- each such bit is among them
  to_all : (at : Place) → IsSetExtra image.layout image.cram at → Contains all_extras at
  to_all at is =
      let test : is_set_extra at ≡ true = and_true (place_bit image.cram at) (is_owned image.layout at) is.is_set (is_owned-extra image.layout at is.extra) in
      let alone : Contains (extra_at at) at = subst (λ (test : Bool). Contains (if test then at ∷ [] else []) at) (sym test) (0, omega arith, refl) in
      Contains-gathered_below 4 at.bank extras_of_bank at is.inside.bank_in
      (Contains-gathered_below (cram_height image.layout.device) at.py (λ py. extras_of_row at.bank py) at is.inside.py_in
      (Contains-gathered_below (cram_width image.layout.device) at.px (λ px. extra_at (place at.bank px at.py)) at is.inside.px_in alone))

  -- ---- order

  row_ordered : (bank py : ℕ) → AllPairs IsBefore (extras_of_row bank py)
  row_ordered bank py =
      ordered-gathered IsBefore (cram_width image.layout.device) (λ px. extra_at (place bank px py)) (λ px below. alone_ordered (is_set_extra (place bank px py)) (place bank px py)) (λ j k a b before below is_a is_b.
      let left = (at_test (is_set_extra (place bank j py)) (place bank j py) a is_a).1 in
      let right = (at_test (is_set_extra (place bank k py)) (place bank k py) b is_b).1 in
      let here : IsBefore (place bank j py) (place bank k py) = inr (refl, inr (refl, before)) in
      subst (λ (b : Place). IsBefore a b) right (subst (λ (a : Place). IsBefore a (place bank k py)) left here))

  bank_ordered : (bank : ℕ) → AllPairs IsBefore (extras_of_bank bank)
  bank_ordered bank =
      ordered-gathered IsBefore (cram_height image.layout.device) (λ py. extras_of_row bank py) (λ py below. row_ordered bank py) (λ j k a b before below is_a is_b.
      let left = (in_row bank j a is_a).1 in
      let right = (in_row bank k b is_b).1 in
      let here : IsBefore (place bank a.px j) (place bank b.px k) = inr (refl, inl before) in
      subst (λ (at : Place). IsBefore a at) right (subst (λ (at : Place). IsBefore at (place bank b.px k)) left here))

  all_ordered : AllPairs IsBefore all_extras
  all_ordered =
      ordered-gathered IsBefore 4 extras_of_bank (λ bank below. bank_ordered bank) (λ j k a b before below is_a is_b.
      let left = (in_bank j a is_a).2 in
      let right = (in_bank k b is_b).2 in
      inl (let low : a.bank < b.bank = omega (arith, before, left, right) in low))

  -- a list that has these bits in order is that of the definition
  pub set_extras-is : (places : List Place) → AreSetExtras image.layout image.cram places → places ≡ set_extras image
  unfolding set_extras
  set_extras-is places are =
      ordered-same IsBefore before-strict places all_extras are.ordered all_ordered (λ at is. to_all at ((are.exact at).0 is)) (λ at is. (are.exact at).1 (in_all at is))

  -- it has only set extra bits
  pub set_extras-in : (at : Place) → Contains (set_extras image) at → (is_extra image.layout at ≡ true) × (bit_of image (Extra at) ≡ true)
  unfolding set_extras
  set_extras-in at is =
      let found = in_all at is in
      (extra_from image.layout at found.inside (is_owned-extra image.layout at found.extra), found.is_set)

  -- and each of them
  pub set_extras-at : (at : Place) → is_extra image.layout at ≡ true → bit_of image (Extra at) ≡ true → Contains (set_extras image) at
  unfolding set_extras
  set_extras-at at extra is_set =
      let facts = extra_in image.layout at extra in
      to_all at (record { inside = facts.0; is_set = is_set; extra = extra-is_owned image.layout at facts.1 })
