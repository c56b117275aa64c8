-- Where the part of an image ends.
use Rattle.std.proofs.Common.{◌≡◌, ℕ, ◌+◌, ◌<◌, ◌≤◌, Bool, true, false, ◌&&◌, ◌==◌, List, length, refl, sym, ap, ◌∙◌, inl, inr, arith}
use Rattle.std.specs.Prelude.{nat_lt, Option, Some, None, unwrap_or}
use Rattle.std.proofs.lemmas.Bool.{cases_lt, cases_Bool, lt-ltb, ltb-true, eqb-true, eq-eqb}
use Rattle.index_search.specs.Places.{least_below}
use Rattle.index_search.proofs.Found.{least_below-place}
use Rattle.index_search.proofs.Places.{any_below-at, any_below-place, least_below-first, least_below-none}
use Rattle.shared_lemmas.proofs.Tests.{first_true, second_true}
use Rattle.boot_file.specs.Headers.{entry_address}
use Rattle.boot_file.specs.Parts.{is_named, part_end}

module _ (bytes : List ℕ) (address : ℕ) where
  -- whether an offset may be the end: it is after the address, and an entry names it
  abbrev pub ends : ℕ → Bool
  ends offset = nat_lt address offset && is_named bytes offset

  -- such an offset is after the address
  ends-after : (offset : ℕ) → ends offset ≡ true → address < offset
  ends-after offset passes = ltb-true address offset (first_true (nat_lt address offset) (is_named bytes offset) passes)

  -- and the address of an entry
  ends-entry : (offset : ℕ) → ends offset ≡ true → (entry : ℕ) × (entry < 4) × (entry_address bytes entry ≡ offset)
  ends-entry offset passes =
      let found = any_below-place 4 (λ entry. entry_address bytes entry == offset) (second_true (nat_lt address offset) (is_named bytes offset) passes) in
      (found.0, found.1, eqb-true (entry_address bytes found.0) offset found.2)

  -- the address of an entry after it is such an offset
  ends-at : (entry offset : ℕ) → entry < 4 → offset ≡ entry_address bytes entry → address < offset → ends offset ≡ true
  ends-at entry offset within is after =
      let named : is_named bytes offset ≡ true = any_below-at 4 entry (λ k. entry_address bytes k == offset) within (eq-eqb (entry_address bytes entry) offset (sym is)) in
      rw (lt-ltb address offset after, named) refl

  -- the least of the addresses after this one that the first entries name, and of the length
  pub record IsEnd (count end : ℕ) : Type 0 where
    pub within : end ≤ length bytes
    pub named : end < length bytes → ends end ≡ true
    pub least : (entry : ℕ) → entry < count → address < entry_address bytes entry → end ≤ entry_address bytes entry

  -- at first the length
  pub end-first : (end : ℕ) → end ≡ length bytes → IsEnd 0 end
  end-first end is = record { within = omega arith; named = λ below. absurd (omega arith); least = λ entry below. absurd (omega arith) }

  -- an entry that ends the part earlier
  pub end-nearer : (count end other : ℕ) → count < 4 → other ≡ entry_address bytes count → address < other → other < end → IsEnd count end → IsEnd (count + 1) other
  end-nearer count end other few is after before so_far = record {
    within = omega (arith, so_far.within);
    named = λ below. ends-at count other few is after;
    least = λ entry below above. elim (cases_lt entry count) [
      | inl less ↦ omega (arith, so_far.least entry less above)
      | inr more ↦ let same : entry ≡ count = omega arith in omega (arith, ap (entry_address bytes) same)
    ];
  }

  -- and one that doesn't
  pub end-kept : (count end other : ℕ) → other ≡ entry_address bytes count → (address < other → end ≤ other) → IsEnd count end → IsEnd (count + 1) end
  end-kept count end other is beyond so_far = record {
    within = so_far.within;
    named = so_far.named;
    least = λ entry below above. elim (cases_lt entry count) [
      | inl less ↦ so_far.least entry less above
      | inr more ↦
          let same : entry ≡ count = omega arith in
          let here : entry_address bytes entry ≡ other = ap (entry_address bytes) same ∙ sym is in
          omega (arith, here, beyond (omega (arith, here)))
    ];
  }

  -- nothing ends the part before
  none-before : (end offset : ℕ) → IsEnd 4 end → offset < end → ends offset ≡ false
  none-before end offset is below = elim (cases_Bool (ends offset)) [
    | inr fails ↦ fails
    | inl passes ↦
        let entry = ends-entry offset passes in
        absurd (omega (arith, is.least entry.0 entry.1 (omega (arith, entry.2, ends-after offset passes)), entry.2))
  ]

  -- that is where the part ends
  pub part_end-is : (end : ℕ) → IsEnd 4 end → part_end bytes address ≡ end
  unfolding part_end
  part_end-is end is = elim (cases_lt end (length bytes)) [
    | inl inside ↦
        ap (λ (found : Option ℕ). unwrap_or found (length bytes)) (least_below-first (length bytes) end ends inside (λ k below. none-before end k is below) (is.named inside))
    | inr over ↦
        let same : length bytes ≡ end = omega (arith, is.within) in
        ap (λ (found : Option ℕ). unwrap_or found (length bytes)) (least_below-none (length bytes) ends (λ k below. none-before end k is (omega arith))) ∙ same
  ]

  bounds : (found : Option ℕ) → least_below (length bytes) ends ≡ found → address < length bytes → (address < unwrap_or found (length bytes)) × (unwrap_or found (length bytes) ≤ length bytes)
  bounds None is inside = (inside, omega arith)
  bounds (Some end) is inside =
      let least = least_below-place (length bytes) ends end is in
      (ends-after end least.passes, omega (arith, least.within))

  -- after its address, and within the file
  pub part_end-bounds : address < length bytes → (address < part_end bytes address) × (part_end bytes address ≤ length bytes)
  unfolding part_end
  part_end-bounds inside = bounds (least_below (length bytes) ends) refl inside

  after-all : (found : Option ℕ) (limit : ℕ) → least_below (length bytes) ends ≡ found → limit ≤ length bytes
      → ((entry : ℕ) → entry < 4 → address < entry_address bytes entry → limit ≤ entry_address bytes entry) → limit ≤ unwrap_or found (length bytes)
  after-all None limit is inside beyond = inside
  after-all (Some end) limit is inside beyond =
      let passes = (least_below-place (length bytes) ends end is).passes in
      let entry = ends-entry end passes in
      omega (arith, entry.2, beyond entry.0 entry.1 (omega (arith, entry.2, ends-after end passes)))

  -- not before an offset before which no entry names a greater address
  pub part_end-beyond : (limit : ℕ) → limit ≤ length bytes → ((entry : ℕ) → entry < 4 → address < entry_address bytes entry → limit ≤ entry_address bytes entry)
      → limit ≤ part_end bytes address
  unfolding part_end
  part_end-beyond limit inside beyond = after-all (least_below (length bytes) ends) limit refl inside beyond
