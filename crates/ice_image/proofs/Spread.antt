-- Numbers with the bits of others at other places, and rows of tiles that gain them.
use Rattle.std.proofs.Common.{◌≡◌, ◌≢◌, ℕ, zero, suc, ◌+◌, ◌-◌, ◌*◌, ◌/◌, ◌%◌, ◌^◌, ◌<◌, ◌≤◌, ◌==◌, Bool, true, false, not, ◌&&◌, ◌||◌, bit_and, bit_or, w64, List, refl, sym, ap, ◌∙◌, subst, inl, inr, arith}
use Rattle.std.proofs.lemmas.Bool.{cases_Bool, cases_eq, cases_lt, both_ways, eq-eqb, eqb-true}
use Rattle.std.proofs.lemmas.Nat.Bits.{bit_at-lt, bit_at-zero, bit_at_above, bit_at_lowest, bit_at_ones, shr_and_one}
use Rattle.std.proofs.Math.Bool.{and-false, and-true, or-false, or-true}
use Rattle.std.specs.Int.{bit_at, bit_not}
use mir.Val.{bool_byte}
use Rattle.bit_plane.proofs.Made.{length-row_from, get_or-row_from}
use Rattle.bit_plane.proofs.Parts.{bit_at-low, moved_below, moved}
use Rattle.bit_plane.proofs.Words.{get_or-word_bits}
use Rattle.bit_plane.specs.BitList.{word_of}
use Rattle.bit_plane.specs.Rows.{Rows, row_from}
use Rattle.plane_map.specs.declared.tile.Place.{Place}
use Rattle.ice_image.specs.Bits.{number_bit}
use Rattle.ice_image.specs.Configuration.{place_bit}
use Rattle.ice_image.specs.Written.{IsAmong, IsSpread, IsWritten, bit_of_word, gained_bit}
use Rattle.ice_image.proofs.Gained.{number_bit-or, number_bit-row}
use Rattle.ice_image.proofs.Made.{row_from-is, row_word-is, row_word-none}
use Rattle.ice_image.proofs.Marked.{number_bit-less}
use Rattle.ice_image.proofs.Owned.{among}

-- ---- one bit at its place

-- a number below 2 has no bit but the lowest
high_bit : (b k : ℕ) → b < 2 → 0 < k → bit_at b k ≡ 0
high_bit b k small high = bit_at_above b 1 k small high

low_bit : (b : ℕ) → b < 2 → bit_at b 0 ≡ b
low_bit b small = bit_at_lowest b ∙ omega arith

-- it is shifted to that place alone
shifted-here : (b c : ℕ) → b < 2 → c < 64 → bit_at (b * 2 ^ c % 2 ^ 64) c ≡ b
shifted-here b c small within =
    let none : c - c ≡ 0 = omega arith in
    bit_at-low (b * 2 ^ c) 64 c within ∙ moved b c c (omega arith) ∙ ap (bit_at b) none ∙ low_bit b small

shifted-other : (b c k : ℕ) → b < 2 → k < 64 → (k ≢ c) → bit_at (b * 2 ^ c % 2 ^ 64) k ≡ 0
shifted-other b c k small within other = bit_at-low (b * 2 ^ c) 64 k within ∙ elim (cases_lt k c) [
  | inl below ↦ moved_below b c k below
  | inr from ↦ moved b c k from ∙ high_bit b (k - c) small (omega (arith, other))
]

-- ---- one bit after the other

pub spread-none : (places : ℕ → ℕ) (ones : ℕ) → IsSpread places 0 64 ones 0
spread-none places ones = record {
  set = λ k within is. absurd (omega arith);
  only = λ place within is. absurd (both_ways (number_bit 0 place) (ap (λ n. n == 1) (bit_at-zero place)) is);
}

module _ (places : ℕ → ℕ) (n ones spread : ℕ) (so_far : IsSpread places n 64 ones spread) (inside : (k : ℕ) → k < n + 1 → places k < 64) where
  abbrev bit : ℕ
  bit = bit_and (ones / 2 ^ n) 1

  abbrev one : ℕ
  one = bit * 2 ^ places n % 2 ^ 64

  bit-is : bit ≡ bit_at ones n
  bit-is = shr_and_one ones n

  small : bit < 2
  small = omega (arith, bit-is, bit_at-lt ones n)

  is-set : number_bit ones n ≡ true → bit ≡ 1
  is-set is = bit-is ∙ eqb-true (bit_at ones n) 1 is

  more-set : (k : ℕ) → k < n + 1 → number_bit ones k ≡ true → number_bit (bit_or spread one) (places k) ≡ true
  more-set k within is = number_bit-or spread one (places k) ∙ elim (cases_eq k n) [
    | inl last ↦
        let here : number_bit one (places k) ≡ true =
        ap (λ m. number_bit one (places m)) last ∙ eq-eqb (bit_at one (places n)) 1 (shifted-here bit (places n) small (inside n (omega arith)) ∙ is-set (ap (number_bit ones) (sym last) ∙ is))
        in
        ap (λ b. number_bit spread (places k) || b) here ∙ or-true (number_bit spread (places k))
    | inr other ↦ ap (λ b. b || number_bit one (places k)) (so_far.set k (omega (arith, other)) is)
  ]

  more-only : (place : ℕ) → place < 64 → number_bit (bit_or spread one) place ≡ true → (k : ℕ) × (k < n + 1) × (places k ≡ place) × (number_bit ones k ≡ true)
  more-only place within is = elim (cases_Bool (number_bit spread place)) [
    | inl before ↦
        let found = so_far.only place within before in
        (found.0, omega (arith, found.1), found.2, found.3)
    | inr not_before ↦
        let here : number_bit one place ≡ true = sym (ap (λ b. b || number_bit one place) not_before) ∙ sym (number_bit-or spread one place) ∙ is in
        elim (cases_eq place (places n)) [
          | inl same ↦
              let set : bit ≡ 1 = sym (shifted-here bit (places n) small (inside n (omega arith))) ∙ ap (bit_at one) (sym same) ∙ eqb-true (bit_at one place) 1 here in
              (n, omega arith, sym same, eq-eqb (bit_at ones n) 1 (sym bit-is ∙ set))
          | inr other ↦ absurd (both_ways (number_bit one place) (ap (λ b. b == 1) (shifted-other bit (places n) place small within other)) here)
        ]
  ]

  pub spread-more : IsSpread places (n + 1) 64 ones (bit_or spread one)
  spread-more = record { set = more-set; only = more-only }

-- a number as it is
pub spread-same : (places : ℕ → ℕ) (count bound ones : ℕ) → bound ≡ count → ((k : ℕ) → places k ≡ k) → IsSpread places count bound ones ones
spread-same places count bound ones long same = record {
  set = λ k within is. ap (number_bit ones) (same k) ∙ is;
  only = λ place within is. (place, omega (arith, within, long), same place, is);
}

-- the same places that are given otherwise, and a lower bound
pub spread-as : (places others : ℕ → ℕ) (count now bound lower ones spread : ℕ) → now ≡ count → lower ≤ bound → ((k : ℕ) → others k ≡ places k) → IsSpread places count bound ones spread → IsSpread others now lower ones spread
spread-as places others count now bound lower ones spread as_many le same is = record {
  set = λ k within one. ap (number_bit spread) (same k) ∙ is.set k (omega (arith, as_many, within)) one;
  only = λ place within set.
      let found = is.only place (omega (arith, le, within)) set in
      (found.0, omega (arith, as_many, found.1), same found.0 ∙ found.2, found.3);
}

-- ---- bits gathered from other places

-- two rows with the same bits
pub same-row : (count : ℕ) (bit other : ℕ → Bool) → ((k : ℕ) → k < count → bit k ≡ other k) → row_from count bit ≡ row_from count other
same-row count bit other same =
    row_from-is count bit (row_from count other) (length-row_from count other) (λ k within. same k within ∙ sym (get_or-row_from count other k within))

-- the same places that are given otherwise
pub gathered-as : (places others : ℕ → ℕ) (count now word gathered : ℕ) → now ≡ count → ((k : ℕ) → others k ≡ places k) → gathered ≡ word_of (row_from count (λ k. number_bit word (places k)))
    → gathered ≡ word_of (row_from now (λ k. number_bit word (others k)))
gathered-as places others count now word gathered as_many same is =
    is ∙ ap (λ n. word_of (row_from n (λ k. number_bit word (places k)))) (sym as_many)
    ∙ ap word_of (same-row now (λ k. number_bit word (places k)) (λ k. number_bit word (others k)) (λ k within. ap (number_bit word) (sym (same k))))

-- a number as it is
pub gathered-same : (places : ℕ → ℕ) (count bound word : ℕ) → bound ≡ count → word < 2 ^ bound → ((k : ℕ) → places k ≡ k) → word ≡ word_of (row_from count (λ k. number_bit word (places k)))
gathered-same places count bound word long small same =
    sym (row_word-is count (λ k. number_bit word (places k)) word (subst (λ n. word < 2 ^ n) long small) (λ k within. ap (number_bit word) (same k) ∙ sym (get_or-word_bits count word k within)))

-- one bit of a number, as a number
pub bit-number : (word k : ℕ) → bit_and (word / 2 ^ k) 1 ≡ bool_byte (number_bit word k)
bit-number word k = shr_and_one word k ∙ of_bit (bit_at word k) (bit_at-lt word k)
  where
    of_bit : (m : ℕ) → m < 2 → m ≡ bool_byte (m == 1)
    of_bit zero small = refl
    of_bit (suc zero) small = refl
    of_bit (suc (suc m)) small = absurd (omega arith)

-- the bits of a row from those of its run
pub row-gathered : (run : ℕ → Place) (length : ℕ) (row : ℕ → Place) (count : ℕ) (columns : ℕ → ℕ) (planes : List Rows) (word gathered : ℕ) → ((k : ℕ) → k < count → columns k < length)
    → ((k : ℕ) → k < count → row k ≡ run (columns k)) → word ≡ word_of (row_from length (λ k. place_bit planes (run k))) → gathered ≡ word_of (row_from count (λ k. number_bit word (columns k)))
    → gathered ≡ word_of (row_from count (λ k. place_bit planes (row k)))
row-gathered run length row count columns planes word gathered inside places word_is is =
    is ∙ ap word_of (same-row count (λ k. number_bit word (columns k)) (λ k. place_bit planes (row k)) (λ k within.
    ap (λ n. number_bit n (columns k)) word_is ∙ number_bit-row length (λ k. place_bit planes (run k)) (columns k) (inside k within) ∙ ap (place_bit planes) (sym (places k within))))

-- a row without columns
pub none-gathered : (count : ℕ) (bit : ℕ → Bool) → count ≡ 0 → 0 ≡ word_of (row_from count bit)
none-gathered count bit none = row_word-none 0 bit ∙ ap (λ n. word_of (row_from n bit)) (sym none)

-- ---- what a spread number is at the columns, and at no other bit

module _ (row : ℕ → Place) (run : ℕ → Place) (length count : ℕ) (columns : ℕ → ℕ) (ones spread : ℕ)
    (inside : (k : ℕ) → k < count → columns k < length) (places : (k : ℕ) → k < count → row k ≡ run (columns k)) (apart : (k j : ℕ) → k < count → j < count → row k ≡ row j → k ≡ j)
    (is : IsSpread columns count length ones spread) where
  -- at a column it is what the number is there
  pub column-bit : (k : ℕ) → k < count → number_bit spread (columns k) ≡ number_bit ones k
  column-bit k within = elim (cases_Bool (number_bit ones k)) [
    | inl one ↦ is.set k within one ∙ sym one
    | inr none ↦ elim (cases_Bool (number_bit spread (columns k))) [
      | inr off ↦ off ∙ sym none
      | inl on ↦
          let found = is.only (columns k) (inside k within) on in
          let same : found.0 ≡ k = apart found.0 k found.1 within (places found.0 found.1 ∙ ap run found.2 ∙ sym (places k within)) in
          absurd (both_ways (number_bit ones k) none (ap (number_bit ones) (sym same) ∙ found.3))
    ]
  ]

  -- and 0 at a bit of the run that is no column's
  pub spare-bit : (k : ℕ) → k < length → ¬ IsAmong row count (run k) → number_bit spread k ≡ false
  spare-bit k within out = elim (cases_Bool (number_bit spread k)) [
    | inr off ↦ off
    | inl on ↦
        let found = is.only k within on in
        absurd (out (found.0, found.1, places found.0 found.1 ∙ ap run found.2))
  ]

-- ---- rows that gain bits

-- if the bits of a row are some of a run, and the run gains them there, the row does
module _ (run : ℕ → Place) (length : ℕ) (row : ℕ → Place) (count : ℕ) (columns : ℕ → ℕ) (ones spread : ℕ) (before after : List Rows)
    (inside : (k : ℕ) → k < count → columns k < length) (places : (k : ℕ) → k < count → row k ≡ run (columns k)) (apart : (k j : ℕ) → k < count → j < count → row k ≡ row j → k ≡ j)
    (is : IsSpread columns count length ones spread) (written : IsWritten run (gained_bit run before spread) length before after) where
  gained-bits : (k : ℕ) → k < count → place_bit after (row k) ≡ gained_bit row before ones k
  gained-bits k within =
      ap (place_bit after) (places k within) ∙ written.written (columns k) (inside k within)
      ∙ ap (λ at. place_bit before at || number_bit spread (columns k)) (sym (places k within))
      ∙ ap (λ b. place_bit before (row k) || b) (column-bit row run length count columns ones spread inside places apart is k within)

  gained-others : (at : Place) → ¬ IsAmong row count at → place_bit after at ≡ place_bit before at
  gained-others at out = elim (among run length at) [
    | inr outside ↦ written.others at outside
    | inl here ↦
        let off = spare-bit row run length count columns ones spread inside places apart is here.0 here.1 (subst (λ (p : Place). ¬ IsAmong row count p) (sym here.2) out) in
        ap (place_bit after) (sym here.2) ∙ written.written here.0 here.1 ∙ ap (λ b. place_bit before (run here.0) || b) off ∙ or-false (place_bit before (run here.0)) ∙ ap (place_bit before) here.2
  ]

  pub row-gained : IsWritten row (gained_bit row before ones) count before after
  row-gained = record { written = gained-bits; others = gained-others }

-- ---- rows that are written

-- if a run keeps its bits except at the columns of a row, and has the bits of a number there, the row has the bits of that number
module _ (run : ℕ → Place) (length : ℕ) (row : ℕ → Place) (count : ℕ) (columns : ℕ → ℕ) (word all spread kept : ℕ) (before after : List Rows)
    (inside : (k : ℕ) → k < count → columns k < length) (places : (k : ℕ) → k < count → row k ≡ run (columns k)) (apart : (k j : ℕ) → k < count → j < count → row k ≡ row j → k ≡ j)
    (few : length ≤ 64) (few_columns : count ≤ 64) (small : all < 2 ^ 64) (kept_is : kept ≡ word_of (row_from length (λ k. place_bit before (run k))))
    (all_is : IsSpread columns count length (2 ^ 64 - 1) all) (is : IsSpread columns count length word spread)
    (written : IsWritten run (bit_of_word length (bit_or (bit_and kept (bit_not w64 all)) spread)) length before after) where
  abbrev bits : ℕ
  bits = bit_or (bit_and kept (bit_not w64 all)) spread

  bits-at : (k : ℕ) → k < length → place_bit after (run k) ≡ ((place_bit before (run k) && not (number_bit all k)) || number_bit spread k)
  bits-at k within =
      let was : number_bit kept k ≡ place_bit before (run k) = ap (λ n. number_bit n k) kept_is ∙ number_bit-row length (λ k. place_bit before (run k)) k within in
      written.written k within ∙ get_or-word_bits length bits k within ∙ number_bit-or (bit_and kept (bit_not w64 all)) spread k
      ∙ ap (λ b. b || number_bit spread k) (number_bit-less kept all k small (omega (arith, few, within)) ∙ ap (λ b. b && not (number_bit all k)) was)

  ones-at : (k : ℕ) → k < 64 → number_bit (2 ^ 64 - 1) k ≡ true
  ones-at k within = eq-eqb (bit_at (2 ^ 64 - 1) k) 1 (bit_at_ones 64 k within)

  written-bits : (k : ℕ) → k < count → place_bit after (row k) ≡ bit_of_word count word k
  written-bits k within =
      let covered : number_bit all (columns k) ≡ true = all_is.set k within (ones-at k (omega (arith, few_columns, within))) in
      ap (place_bit after) (places k within) ∙ bits-at (columns k) (inside k within)
      ∙ ap (λ b. (place_bit before (run (columns k)) && not b) || number_bit spread (columns k)) covered
      ∙ ap (λ b. b || number_bit spread (columns k)) (and-false (place_bit before (run (columns k))))
      ∙ column-bit row run length count columns word spread inside places apart is k within ∙ sym (get_or-word_bits count word k within)

  written-others : (at : Place) → ¬ IsAmong row count at → place_bit after at ≡ place_bit before at
  written-others at out = elim (among run length at) [
    | inr outside ↦ written.others at outside
    | inl here ↦
        let outside : ¬ IsAmong row count (run here.0) = subst (λ (p : Place). ¬ IsAmong row count p) (sym here.2) out in
        let uncovered = spare-bit row run length count columns (2 ^ 64 - 1) all inside places apart all_is here.0 here.1 outside in
        let off = spare-bit row run length count columns word spread inside places apart is here.0 here.1 outside in
        ap (place_bit after) (sym here.2) ∙ bits-at here.0 here.1 ∙ (λ i. (place_bit before (run here.0) && not (uncovered i)) || off i)
        ∙ or-false (place_bit before (run here.0) && true) ∙ and-true (place_bit before (run here.0)) ∙ ap (place_bit before) here.2
  ]

  pub row-written : IsWritten row (bit_of_word count word) count before after
  row-written = record { written = written-bits; others = written-others }

-- ---- a tile without columns

pub none-written : (places : ℕ → Place) (bits : ℕ → Bool) (count : ℕ) (planes : List Rows) → count ≡ 0 → IsWritten places bits count planes planes
none-written places bits count planes none = record { written = λ k within. absurd (omega (arith, none)); others = λ at out. refl }
