-- Columns as four numbers are equal exactly if their bits are.
use Rattle.std.proofs.Common.{◌≡◌, ℕ, zero, suc, ◌+◌, ◌-◌, ◌*◌, ◌^◌, ◌<◌, ◌≤◌, Bool, false, List, [], ◌∷◌, get_or, refl, sym, ap, ap₂, ◌∙◌, subst, inl, inr, arith, add-one}
use Rattle.std.specs.Prelude.{map, bytes_eq}
use Rattle.std.specs.List.{range_with_len}
use Rattle.std.proofs.lemmas.Bool.{cases_lt}
use Rattle.std.specs.Cmp.{both_ways}
use Rattle.std.proofs.lemmas.List.FromFn.{length-map-range_with_len}
use Rattle.std.proofs.lemmas.Slice.Eq.{bytes_eq-Decides}
use Rattle.std.proofs.lemmas.Nat.{mul-le}
use Rattle.bit_plane.specs.BitList.{bit_value, word_bits, word_of}
use Rattle.bit_plane.proofs.Words.{word_bits-word_of, word_of-fits, word_of-lt}
use Rattle.bram_replace.specs.Columns.{column_from, is_same}
use Rattle.bram_replace.specs.Packed.{packed, word_from}
use Rattle.bram_replace.proofs.Made.{made-same, made-at, column_from-same}
use Rattle.bram_replace.proofs.Same.{is_same-equal, is_same-from}

-- ---- a number from its bits, the last first

-- one bit more in front
pub word_from-more : (bit : ℕ → Bool) (place count : ℕ) → 0 < place → place ≤ count
    → word_of (map bit (range_with_len (place - 1) (count - (place - 1)))) ≡ bit_value (bit (place - 1)) + 2 * word_of (map bit (range_with_len place (count - place)))
unfolding word_of
word_from-more bit zero count some within = absurd (omega arith)
word_from-more bit (suc place) count some within =
    let before : suc place - 1 ≡ place = omega arith in
    let size : count - place ≡ suc (count - suc place) = omega arith in
    rw (before, size, add-one) refl

pub word_from-lt : (bit : ℕ → Bool) (from count : ℕ) → word_of (map bit (range_with_len from count)) < 2 ^ count
word_from-lt bit from count =
    subst (λ n. word_of (map bit (range_with_len from count)) < 2 ^ n) (length-map-range_with_len bit from count) (word_of-lt (map bit (range_with_len from count)))

-- no bits yet
pub word_from-none : (bit : ℕ → Bool) (count : ℕ) → word_of (map bit (range_with_len count (count - count))) ≡ 0
unfolding word_of
word_from-none bit count = let e : count - count ≡ 0 = omega arith in rw e refl

-- one bit more, as it is computed
pub word_from-next : (bit : ℕ → Bool) (place count word value : ℕ) → 0 < place → place ≤ count → word ≡ word_of (map bit (range_with_len place (count - place)))
    → value ≡ bit_value (bit (place - 1)) → 2 * word + value ≡ word_of (map bit (range_with_len (place - 1) (count - (place - 1))))
word_from-next bit place count word value some within is here =
    let more = word_from-more bit place count some within in
    omega (arith, more, is, here)

-- at most 64 bits
pub word_from-fits : (bit : ℕ → Bool) (from count : ℕ) → count ≤ 64 → word_of (map bit (range_with_len from count)) < 2 ^ 64
word_from-fits bit from count few = word_of-fits (map bit (range_with_len from count)) (omega (arith, length-map-range_with_len bit from count))

-- bits that stand apart
pub at-within : (first step count place size : ℕ) → place < count → first + (count - 1) * step < size → first + place * step < size
at-within first step count place size below within =
    let less : place * step ≤ (count - 1) * step = mul-le place step (count - 1) step (omega arith) (omega arith) in
    omega (arith, less)

-- ---- equal numbers

pub word_from-same : (count : ℕ) (f g : ℕ → Bool) → ((k : ℕ) → k < count → f k ≡ g k) → word_from count f ≡ word_from count g
word_from-same count f g same = ap word_of (made-same f g count same)

word_from-at : (count : ℕ) (f g : ℕ → Bool) (k : ℕ) → word_from count f ≡ word_from count g → k < count → f k ≡ g k
word_from-at count f g k same within =
    let fs = map f (range_with_len 0 count) in
    let gs = map g (range_with_len 0 count) in
    let lists : fs ≡ gs =
    sym (word_bits-word_of fs) ∙ ap₂ (λ n word. word_bits n word) (length-map-range_with_len f 0 count ∙ sym (length-map-range_with_len g 0 count)) same ∙ word_bits-word_of gs in
    made-at f g count k lists within

-- ---- equal columns

pub packed-same : (f g : ℕ → Bool) → ((word : ℕ) → word < 256 → f word ≡ g word) → packed f ≡ packed g
unfolding packed
packed-same f g same =
    let quarter : (from : ℕ) → from + 64 ≤ 256 → word_from 64 (λ place. f (from + place)) ≡ word_from 64 (λ place. g (from + place)) =
    λ from within. word_from-same 64 (λ place. f (from + place)) (λ place. g (from + place)) (λ k few. same (from + k) (omega arith)) in
    rw (quarter 0 (omega arith), quarter 64 (omega arith), quarter 128 (omega arith), quarter 192 (omega arith)) refl

packed-at : (f g : ℕ → Bool) (word : ℕ) → packed f ≡ packed g → word < 256 → f word ≡ g word
unfolding packed
packed-at f g word same within =
    let quarter : (from : ℕ) → word_from 64 (λ place. f (from + place)) ≡ word_from 64 (λ place. g (from + place)) → from ≤ word → word < from + 64 → f word ≡ g word =
    λ from e low high.
    let here : from + (word - from) ≡ word = omega arith in
    subst (λ k. f k ≡ g k) here (word_from-at 64 (λ place. f (from + place)) (λ place. g (from + place)) (word - from) e (omega arith)) in
    elim (cases_lt word 64) [
      | inl a ↦ quarter 0 (cc) (omega arith) (omega arith)
      | inr b ↦ elim (cases_lt word 128) [
        | inl c ↦ quarter 64 (cc) (omega arith) (omega arith)
        | inr d ↦ elim (cases_lt word 192) [
          | inl e ↦ quarter 128 (cc) (omega arith) (omega arith)
          | inr f ↦ quarter 192 (cc) (omega arith) (omega arith)
        ]
      ]
    ]

-- four numbers of 64 bits each
pub packed-quarters : (bits : List Bool) (first step a b c d : ℕ) → a ≡ word_from 64 (λ place. get_or bits (first + place * step) false)
    → b ≡ word_from 64 (λ place. get_or bits (first + 64 * step + place * step) false) → c ≡ word_from 64 (λ place. get_or bits (first + 128 * step + place * step) false)
    → d ≡ word_from 64 (λ place. get_or bits (first + 192 * step + place * step) false) → a ∷ b ∷ c ∷ d ∷ [] ≡ packed (λ place. get_or bits (first + place * step) false)
unfolding packed
packed-quarters bits first step a b c d is_a is_b is_c is_d =
    let part : (from word : ℕ) → word ≡ word_from 64 (λ place. get_or bits (first + from * step + place * step) false)
    → word ≡ word_from 64 (λ place. get_or bits (first + (from + place) * step) false) = λ from word is.
    is ∙ word_from-same 64 (λ place. get_or bits (first + from * step + place * step) false) (λ place. get_or bits (first + (from + place) * step) false)
    (λ k few. let here : first + from * step + k * step ≡ first + (from + k) * step = omega arith in ap (λ n. get_or bits n false) here) in
    let start : a ≡ word_from 64 (λ place. get_or bits (first + (0 + place) * step) false) =
    is_a ∙ word_from-same 64 (λ place. get_or bits (first + place * step) false) (λ place. get_or bits (first + (0 + place) * step) false)
    (λ k few. let here : first + k * step ≡ first + (0 + k) * step = omega arith in ap (λ n. get_or bits n false) here) in
    rw (start, part 64 b is_b, part 128 c is_c, part 192 d is_d) refl

-- the test of numbers is that of bits
pub packed-decides : (f g : ℕ → Bool) → bytes_eq (packed f) (packed g) ≡ is_same (column_from f) (column_from g)
packed-decides f g =
    let decides = bytes_eq-Decides (packed f) (packed g) in
    both_ways (bytes_eq (packed f) (packed g)) (is_same (column_from f) (column_from g))
    (λ holds_so. is_same-from (column_from f) (column_from g) (column_from-same f g (λ word within. packed-at f g word (decides.0 holds_so) within)))
    (λ holds_so. decides.1 (packed-same f g (λ word within. made-at f g 256 word (is_same-equal (column_from f) (column_from g) holds_so) within)))
