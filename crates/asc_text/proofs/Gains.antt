-- Bits that are set one after the other.
use Rattle.std.proofs.Common.{◌≡◌, ◌≢◌, ℕ, ◌+◌, ◌*◌, ◌/◌, ◌%◌, ◌<◌, Bool, true, false, ◌&&◌, ◌||◌, ◌==◌, List, refl, sym, ap, ◌∙◌, subst, inl, inr, arith}
use Rattle.std.proofs.lemmas.Bool.{cases_eq, cases_lt, cases_Bool, eq-eqb, ne_eqb, lt-ltb, both_ways}
use Rattle.std.proofs.lemmas.Bool.Decides.{nat_tests}
use Rattle.std.proofs.Math.Bool.{or-false, or-true, or_assoc}
use Rattle.std.specs.Prelude.{nat_lt}
use Rattle.plane_map.specs.Layout.{Layout}
use Rattle.plane_map.specs.declared.tile.Place.{Place}
use Rattle.ice_image.specs.Bits.{Bit, OfTile, OfWord, Extra, IsBit, bit_of, number_bit, row_ones, word_ones, IsSet, Gains}
use Rattle.ice_image.specs.Configuration.{Configuration, IsWhole}
use Rattle.ice_image.proofs.Owned.{is_same_place-same, is_same_place-self}
use Rattle.asc_text.specs.Rows.{ram_line_bytes, row_bit}
use Rattle.asc_text.specs.Meaning.{row_sets, line_sets, extra_sets}
use Rattle.asc_text.specs.inside.Gains.{word_in, bytes_set, bytes_set_below}

-- ---- one bit

-- a test that only the bit passes that was set
Gains-set : (bit : Bit) (test : Bit → Bool) (before after : Configuration) → ((other : Bit) → test other ≡ true → other ≡ bit) → test bit ≡ true → IsSet bit true before after → Gains test before after
Gains-set bit test before after only passes set = record {
  layout = set.others.layout;
  comment = set.others.comment;
  settings = set.others.settings;
  whole = set.others.whole;
  bits = λ other is. elim (cases_Bool (test other)) [
    | inl here ↦
        let same : other ≡ bit = only other here in
        ap (bit_of after) same ∙ set.set ∙ sym (or-true (bit_of before other)) ∙ ap (λ t. bit_of before other || t) (sym here)
    | inr none ↦
        set.others.bits other is (λ same. both_ways (test other) none (ap test same ∙ passes))
        ∙ sym (or-false (bit_of before other)) ∙ ap (λ t. bit_of before other || t) (sym none)
  ];
}

-- only the place itself passes its test
extra-only : (at : Place) (bit : Bit) → extra_sets at bit ≡ true → bit ≡ Extra at
extra-only at (Extra other) is = ap (λ at. Extra at) (sym (is_same_place-same at other is))
extra-only at (OfTile bit) is = absurd cc
extra-only at (OfWord bit) is = absurd cc

-- an extra bit is set
pub Gains-extra : (before after : Configuration) (at : Place) → IsSet (Extra at) true before after → Gains (extra_sets at) before after
Gains-extra before after at = Gains-set (Extra at) (extra_sets at) before after (extra-only at) (is_same_place-self at)

-- ---- one after the other

-- nothing is set yet
pub Gains-none : (test : Bit → Bool) (before : Configuration) → IsWhole before → ((bit : Bit) → test bit ≡ false) → Gains test before before
Gains-none test before whole none = record { layout = refl; comment = refl; settings = refl; whole = whole; bits = λ bit is. sym (or-false (bit_of before bit)) ∙ ap (λ t. bit_of before bit || t) (sym (none bit)) }

-- one gain more
pub Gains-more : (one more both : Bit → Bool) (before now after : Configuration) → Gains one before now → Gains more now after → ((bit : Bit) → (one bit || more bit) ≡ both bit) → Gains both before after
Gains-more one more both before now after first next sum = record {
  layout = next.layout ∙ first.layout;
  comment = next.comment ∙ first.comment;
  settings = next.settings ∙ first.settings;
  whole = next.whole;
  bits = λ bit is.
      let P : Layout → Type 0 = λ layout. IsBit layout bit in
      next.bits bit (subst P (sym first.layout) is) ∙ ap (λ b. b || more bit) (first.bits bit is) ∙ or_assoc (bit_of before bit) (one bit) (more bit) ∙ ap (λ t. bit_of before bit || t) (sum bit);
}

-- the same bits by another test
pub Gains-same : (one other : Bit → Bool) (before after : Configuration) → Gains one before after → ((bit : Bit) → IsBit before.layout bit → one bit ≡ other bit) → Gains other before after
Gains-same one other before after gains same = record {
  layout = gains.layout;
  comment = gains.comment;
  settings = gains.settings;
  whole = gains.whole;
  bits = λ bit is. gains.bits bit is ∙ ap (λ t. bit_of before bit || t) (same bit is);
}

-- ---- the ones of a row

-- the bits of a row's number are its characters 1
pub ones-characters : (x y row ones : ℕ) (line : List ℕ) → ((col : ℕ) → number_bit ones col ≡ row_bit line col) → (bit : Bit) → row_ones x y row ones bit ≡ row_sets x y row line bit
ones-characters x y row ones line same (OfTile bit) = ap (λ b. (x == bit.x) && (y == bit.y) && (row == bit.row) && b) (same bit.col)
ones-characters x y row ones line same (OfWord bit) = refl
ones-characters x y row ones line same (Extra at) = refl

-- ---- the first of some

none-first : (a b : Bool) → ((a && false) && b) ≡ false
none-first true b = refl
none-first false b = refl

past-not : (k : ℕ) → nat_lt k k ≡ false
past-not k = grind (arith, nat_tests)

next-is : (k : ℕ) → nat_lt k (k + 1) ≡ true
next-is k = lt-ltb k (k + 1) (omega arith)

next-other : (k n : ℕ) → n ≢ k → nat_lt k (n + 1) ≡ nat_lt k n
next-other k n other = elim (cases_lt k n) [
  | inl before ↦ lt-ltb k (n + 1) (omega arith) ∙ sym (lt-ltb k n before)
  | inr past ↦
      let ahead : n < k = grind (arith, nat_tests) in
      grind (arith, nat_tests)
]

and-last : (a b : Bool) → (a && true && b) ≡ (a && b)
and-last true b = refl
and-last false b = refl

-- no word of a line yet
pub bytes-none : (x y row : ℕ) (bytes : List ℕ) (bit : Bit) → bytes_set_below x y row bytes 0 bit ≡ false
bytes-none x y row bytes (OfWord bit) =
    let none : nat_lt (bit.word % 16) 0 ≡ false = grind (arith, nat_tests) in
    rw none (none-first ((x == bit.x) && (y == bit.y) && (row == bit.word / 16)) (number_bit (word_in bytes (bit.word % 16)) bit.bit))
bytes-none x y row bytes (OfTile bit) = refl
bytes-none x y row bytes (Extra at) = refl

-- what one word more adds
word-here : (a b : Bool) → ((a && true && false && b) || (a && true && b)) ≡ (a && true && true && b)
word-here true true = refl
word-here true false = refl
word-here false b = refl

word-other : (a r l b c : Bool) → ((a && r && l && b) || (a && false && c)) ≡ (a && r && l && b)
word-other true true true true c = refl
word-other true true true false c = refl
word-other true true false b c = refl
word-other true false l b c = refl
word-other false r l b c = refl

-- one word more
bytes-step : (a : Bool) (row n word : ℕ) (test : ℕ → Bool) → n < 16
    → ((a && (row == word / 16) && nat_lt (word % 16) n && test (word % 16)) || (a && (16 * row + n == word) && test n)) ≡ (a && (row == word / 16) && nat_lt (word % 16) (n + 1) && test (word % 16))
bytes-step a row n word test small =
    elim (cases_eq (16 * row + n) word) [
      | inl e ↦
          let high : row ≡ word / 16 = omega arith in
          let low : n ≡ word % 16 = omega arith in
          let P : ℕ → Type 0 = λ m. ((a && (row == word / 16) && nat_lt (word % 16) m && test (word % 16)) || (a && (16 * row + n == word) && test m)) ≡ (a && (row == word / 16) && nat_lt (word % 16) (m + 1) && test (word % 16)) in
          subst P (sym low) (rw (past-not (word % 16), next-is (word % 16), eq-eqb row (word / 16) high, eq-eqb (16 * row + n) word e) (word-here a (test (word % 16))))
      | inr ne ↦ elim (cases_eq row (word / 16)) [
        | inl high ↦
            let low : n ≢ word % 16 = λ same. ne (omega arith) in
            rw (next-other (word % 16) n low, ne_eqb (16 * row + n) word ne) (word-other a (row == word / 16) (nat_lt (word % 16) n) (test (word % 16)) (test n))
        | inr high ↦ rw (ne_eqb row (word / 16) high, ne_eqb (16 * row + n) word ne) (neither a (nat_lt (word % 16) n) (nat_lt (word % 16) (n + 1)) (test (word % 16)) (test n))
      ]
    ]
  where
    neither : (a l m b c : Bool) → ((a && false && l && b) || (a && false && c)) ≡ (a && false && m && b)
    neither true l m b c = refl
    neither false l m b c = refl

pub bytes-more : (x y row : ℕ) (bytes : List ℕ) (n : ℕ) (bit : Bit) → n < 16
    → (bytes_set_below x y row bytes n bit || word_ones x y (16 * row + n) (word_in bytes n) bit) ≡ bytes_set_below x y row bytes (n + 1) bit
bytes-more x y row bytes n (OfWord bit) small = bytes-step ((x == bit.x) && (y == bit.y)) row n bit.word (λ index. number_bit (word_in bytes index) bit.bit) small
bytes-more x y row bytes n (OfTile bit) small = refl
bytes-more x y row bytes n (Extra at) small = refl

-- all words
pub bytes-all : (x y row : ℕ) (bytes : List ℕ) (bit : Bit) → bytes_set_below x y row bytes 16 bit ≡ bytes_set x y row bytes bit
bytes-all x y row bytes (OfWord bit) =
    let within : nat_lt (bit.word % 16) 16 ≡ true = lt-ltb (bit.word % 16) 16 (omega arith) in
    rw within (and-last ((x == bit.x) && (y == bit.y) && (row == bit.word / 16)) (number_bit (word_in bytes (bit.word % 16)) bit.bit))
bytes-all x y row bytes (OfTile bit) = refl
bytes-all x y row bytes (Extra at) = refl

-- a line's bytes are what the line says
pub bytes-line : (x y row : ℕ) (line : List ℕ) (bit : Bit) → bytes_set x y row (ram_line_bytes line) bit ≡ line_sets x y row line bit
bytes-line x y row line (OfWord bit) = refl
bytes-line x y row line (OfTile bit) = refl
bytes-line x y row line (Extra at) = refl
