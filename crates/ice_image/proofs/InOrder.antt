-- The set extra bits, place after place.
use Rattle.std.proofs.Common.{◌≡◌, ℕ, zero, suc, ◌+◌, ◌<◌, ◌≤◌, ◌↔◌, ◌⊎◌, Bool, true, false, not, if◌then◌else◌, List, [], ◌∷◌, ◌++◌, get_or, refl, sym, ap, ◌∙◌, subst, inl, inr, arith, append_assoc, append-nil, Contains}
use Rattle.std.proofs.lemmas.Bool.{cases_lt, and_parts, both_ways, not-true}
use Rattle.index_search.specs.Places.{gathered_below}
use Rattle.std.proofs.lemmas.List.Elements.{Contains-push, Contains-append_left, Contains-push_cases, Contains-get_or}
use Rattle.std.proofs.lemmas.List.Quantifiers.{all_pairs_push}
use Rattle.bit_plane.specs.Rows.{Rows}
use Rattle.plane_map.specs.Layout.{Layout, IsInCram, cram_width, cram_height}
use Rattle.plane_map.specs.declared.tile.Place.{Place}
use Rattle.ice_image.specs.Extras.{IsBefore, IsSetExtra, AreSetExtras}
use Rattle.ice_image.specs.Bits.{number_bit}
use Rattle.ice_image.specs.Configuration.{place_bit}
use Rattle.ice_image.specs.Owned.{is_owned}
use Rattle.ice_image.specs.Written.{HasExtras, IsExtraAppended, is_set_extra, free_places}
use Rattle.ice_image.proofs.Owned.{is_owned-extra, extra-is_owned}
use Rattle.ice_image.proofs.BankBits.{same_place}

-- the place of a bank's column and row
abbrev pub place : ℕ → ℕ → ℕ → Place
place bank px py = record { bank = bank; px = px; py = py }

-- ---- the order

-- what is before the next column
before-next : (bank px py : ℕ) (at : Place) → IsBefore at (place bank (px + 1) py) → IsBefore at (place bank px py) ⊎ (at ≡ place bank px py)
before-next bank px py at before =
    elim before [
      | inl earlier ↦ inl (inl earlier)
      | inr h ↦ elim h.1 [
        | inl lower ↦ inl (inr (h.0, inl lower))
        | inr k ↦ elim (cases_lt at.px px) [
          | inl left ↦ inl (inr (h.0, inr (k.0, left)))
          | inr last ↦ inr (same_place at (place bank px py) h.0 (omega (arith, k.1)) k.0)
        ]
      ]
    ]

before-last : (bank px py : ℕ) (at : Place) → IsBefore at (place bank px py) → IsBefore at (place bank (px + 1) py)
before-last bank px py at before =
    elim before [
      | inl earlier ↦ inl earlier
      | inr h ↦ elim h.1 [
        | inl lower ↦ inr (h.0, inl lower)
        | inr k ↦ inr (h.0, inr (k.0, (let left : at.px < px + 1 = omega (arith, k.1) in left)))
      ]
    ]

before-itself : (bank px py : ℕ) → IsBefore (place bank px py) (place bank (px + 1) py)
before-itself bank px py = inr (refl, inr (refl, (let left : px < px + 1 = omega arith in left)))

-- the end of a row is the start of the next
row-end : (width bank py : ℕ) (at : Place) → at.px < width → IsBefore at (place bank width py) ↔ IsBefore at (place bank 0 (py + 1))
row-end width bank py at inside = (
  λ before. elim before [
    | inl earlier ↦ inl earlier
    | inr h ↦ inr (
      h.0,
      inl (elim h.1 [
        | inl lower ↦ (let low : at.py < py + 1 = omega (arith, lower) in low)
        | inr k ↦ (let low : at.py < py + 1 = omega (arith, k.0) in low)
      ]),
    )
  ],
  λ before. elim before [
    | inl earlier ↦ inl earlier
    | inr h ↦ inr (
      h.0,
      elim h.1 [
        | inl lower ↦ elim (cases_lt at.py py) [
          | inl low ↦ inl low
          | inr last ↦ inr ((let same : at.py ≡ py = omega (arith, lower) in same), inside)
        ]
        | inr k ↦ absurd (omega (arith, k.1))
      ],
    )
  ],
)

-- the end of a bank is the start of the next
bank-end : (height bank : ℕ) (at : Place) → at.py < height → IsBefore at (place bank 0 height) ↔ IsBefore at (place (bank + 1) 0 0)
bank-end height bank at inside = (
  λ before. inl (elim before [
    | inl earlier ↦ (let low : at.bank < bank + 1 = omega (arith, earlier) in low)
    | inr h ↦ (let low : at.bank < bank + 1 = omega (arith, h.0) in low)
  ]),
  λ before. elim before [
    | inl earlier ↦ elim (cases_lt at.bank bank) [
      | inl low ↦ inl low
      | inr last ↦ inr ((let same : at.bank ≡ bank = omega (arith, earlier) in same), inl inside)
    ]
    | inr h ↦ elim h.1 [
      | inl lower ↦ absurd (omega (arith, lower))
      | inr k ↦ absurd (omega (arith, k.1))
    ]
  ],
)

module _ (layout : Layout) (cram : List Rows) where
  -- nothing is before the first place
  pub extras-none : HasExtras layout cram (place 0 0 0) []
  extras-none = record {
    ordered = λ i j d before inside. absurd (omega arith);
    exact = λ at. (
      λ h. absurd (omega (arith, h.1)),
      λ h. elim h.0 [
        | inl earlier ↦ absurd (omega (arith, earlier))
        | inr k ↦ elim k.1 [
          | inl lower ↦ absurd (omega (arith, lower))
          | inr left ↦ absurd (omega (arith, left.1))
        ]
      ],
    );
  }

  -- another limit with the same places before it
  extras-moved : (limit next : Place) (places : List Place) → ((at : Place) → IsInCram layout.device at → IsBefore at limit ↔ IsBefore at next) → HasExtras layout cram limit places → HasExtras layout cram next places
  extras-moved limit next places same so_far = record {
    ordered = so_far.ordered;
    exact = λ at. (
      λ h. let k = (so_far.exact at).0 h in ((same at k.1.inside).0 k.0, k.1),
      λ h. (so_far.exact at).1 ((same at h.1.inside).1 h.0, h.1),
    );
  }

  -- the next column, if the place is that of a set extra bit
  extras-pushed : (bank px py : ℕ) (places : List Place) → HasExtras layout cram (place bank px py) places → IsSetExtra layout cram (place bank px py) → HasExtras layout cram (place bank (px + 1) py) (places ++ place bank px py ∷ [])
  extras-pushed bank px py places so_far here = record {
    ordered = all_pairs_push IsBefore places (place bank px py) so_far.ordered (λ k d inside. ((so_far.exact (get_or places k d)).0 (Contains-get_or places k d inside)).0);
    exact = λ at. (
      λ h. elim (Contains-push_cases places (place bank px py) at h) [
        | inl earlier ↦ (let k = (so_far.exact at).0 earlier in (before-last bank px py at k.0, k.1))
        | inr same ↦ subst (λ (at : Place). IsBefore at (place bank (px + 1) py) × IsSetExtra layout cram at) same (before-itself bank px py, here)
      ],
      λ h. elim (before-next bank px py at h.0) [
        | inl earlier ↦ Contains-append_left places (place bank px py ∷ []) at ((so_far.exact at).1 (earlier, h.1))
        | inr same ↦ subst (Contains (places ++ place bank px py ∷ [])) (sym same) (Contains-push places (place bank px py))
      ],
    );
  }

  -- the next column, if it isn't
  extras-passed : (bank px py : ℕ) (places : List Place) → HasExtras layout cram (place bank px py) places → ¬ IsSetExtra layout cram (place bank px py) → HasExtras layout cram (place bank (px + 1) py) places
  extras-passed bank px py places so_far none = record {
    ordered = so_far.ordered;
    exact = λ at. (
      λ h. let k = (so_far.exact at).0 h in (before-last bank px py at k.0, k.1),
      λ h. elim (before-next bank px py at h.0) [
        | inl earlier ↦ (so_far.exact at).1 (earlier, h.1)
        | inr same ↦ absurd (none (subst (IsSetExtra layout cram) same h.1))
      ],
    );
  }

  -- the next column
  pub extras-more : (bank px py : ℕ) (before after : List Place) → HasExtras layout cram (place bank px py) before → IsExtraAppended layout cram (place bank px py) before after → HasExtras layout cram (place bank (px + 1) py) after
  extras-more bank px py before after so_far added =
      elim added [
        | inl h ↦ subst (HasExtras layout cram (place bank (px + 1) py)) (sym h.1) (extras-pushed bank px py before so_far h.0)
        | inr h ↦ subst (HasExtras layout cram (place bank (px + 1) py)) (sym h.1) (extras-passed bank px py before so_far h.0)
      ]

  -- a place of a set bit that is no tile's, by the test
  set_extra-from : (at : Place) → IsInCram layout.device at → is_set_extra layout cram at ≡ true → IsSetExtra layout cram at
  set_extra-from at inside is =
      let parts = and_parts (place_bit cram at) (not (is_owned layout at)) is in
      record { inside = inside; is_set = parts.0; extra = extra-is_owned layout at (not-true (is_owned layout at) parts.1) }

  set_extra-to : (at : Place) → IsSetExtra layout cram at → is_set_extra layout cram at ≡ true
  set_extra-to at is = rw (is.is_set, is_owned-extra layout at is.extra) refl

  -- one bit more of a number
  free-more : (test : Bool) (at : Place) (before found : List Place) → IsInCram layout.device at → test ≡ is_set_extra layout cram at → IsExtraAppended layout cram at (before ++ found) (before ++ (found ++ (if test then at ∷ [] else [])))
  free-more true at before found inside is = inl (set_extra-from at inside (sym is), sym (append_assoc before found (at ∷ [])))
  free-more false at before found inside is = inr (λ h. both_ways false refl (is ∙ set_extra-to at h), ap (λ (found : List Place). before ++ found) (append-nil found))

  -- the next columns, by the bits of a number
  pub extras-free : (bank px py free count : ℕ) (places : List Place) → bank < 4 → px + count ≤ cram_width layout.device → py < cram_height layout.device
      → ((k : ℕ) → k < count → number_bit free k ≡ is_set_extra layout cram (place bank (px + k) py)) → HasExtras layout cram (place bank px py) places
      → HasExtras layout cram (place bank (px + count) py) (places ++ free_places bank px py free count)
  unfolding gathered_below
  extras-free bank px py free zero places bank_in columns_in row_in bits so_far =
      let e : px ≡ px + 0 = omega arith in
      subst (λ (n : ℕ). HasExtras layout cram (place bank n py) (places ++ [])) e (subst (HasExtras layout cram (place bank px py)) (sym (append-nil places)) so_far)
  extras-free bank px py free (suc n) places bank_in columns_in row_in bits so_far =
      let e : px + n + 1 ≡ px + suc n = omega arith in
      let inside : IsInCram layout.device (place bank (px + n) py) = record { bank_in = bank_in; px_in = omega (arith, columns_in); py_in = row_in } in
      let before = extras-free bank px py free n places bank_in (omega (arith, columns_in)) row_in (λ k within. bits k (omega (arith, within))) so_far in
      subst (λ (m : ℕ). HasExtras layout cram (place bank m py) (places ++ free_places bank px py free (suc n))) e
      (extras-more bank (px + n) py (places ++ free_places bank px py free n) (places ++ free_places bank px py free (suc n)) before (free-more (number_bit free n) (place bank (px + n) py) places (free_places bank px py free n) inside (bits n (omega arith))))

  -- the next row
  pub extras-row : (bank px py : ℕ) (places : List Place) → px ≡ cram_width layout.device → HasExtras layout cram (place bank px py) places → HasExtras layout cram (place bank 0 (py + 1)) places
  extras-row bank px py places last so_far =
      extras-moved (place bank px py) (place bank 0 (py + 1)) places (λ at inside. row-end px bank py at (omega (arith, inside.px_in))) so_far

  -- the next bank
  pub extras-bank : (bank py : ℕ) (places : List Place) → py ≡ cram_height layout.device → HasExtras layout cram (place bank 0 py) places → HasExtras layout cram (place (bank + 1) 0 0) places
  extras-bank bank py places last so_far =
      extras-moved (place bank 0 py) (place (bank + 1) 0 0) places (λ at inside. bank-end py bank at (omega (arith, inside.py_in))) so_far

  -- all banks
  pub extras-all : (bank : ℕ) (places : List Place) → bank ≡ 4 → HasExtras layout cram (place bank 0 0) places → AreSetExtras layout cram places
  extras-all bank places last so_far = record {
    ordered = so_far.ordered;
    exact = λ at. (λ h. ((so_far.exact at).0 h).1, λ h. (so_far.exact at).1 (inl (let low : at.bank < bank = omega (arith, h.inside.bank_in) in low), h));
  }
