-- Images that gain the bits of a number.
use Rattle.std.proofs.Common.{◌≡◌, ℕ, zero, suc, ◌/◌, ◌%◌, ◌^◌, ◌<◌, Bool, false, ◌&&◌, ◌||◌, ◌==◌, List, get_or, bit_or, max, refl, sym, ap, ◌∙◌, subst, inl, inr, arith}
use Rattle.std.proofs.lemmas.Bool.{cases_Bool, eq-eqb, eqb-true, and_parts, and_from, both_ways, and_left}
use Rattle.std.proofs.lemmas.Nat.Bits.{bit_at_or, bit_at-lt}
use Rattle.std.proofs.Math.Bool.{or-false}
use Rattle.bit_plane.proofs.Made.{get_or-row_from}
use Rattle.bit_plane.proofs.Words.{get_or-word_bits}
use Rattle.bit_plane.specs.BitList.{word_of}
use Rattle.bit_plane.specs.Rows.{Rows, row_from}
use Rattle.plane_map.proofs.Places.{place_is_only}
use Rattle.plane_map.proofs.Words.{word_place_is_only}
use Rattle.plane_map.specs.Layout.{Layout, kind_of, columns_at, place_of, word_place_of, cram_width, cram_height, bram_width, bram_height}
use Rattle.plane_map.specs.declared.tile.TileBit.{TileBit}
use Rattle.plane_map.specs.declared.tile.TileKind.TheVariants.{RamB}
use Rattle.plane_map.specs.declared.tile.WordBit.{WordBit}
use Rattle.std.specs.Prelude.{Some}
use Rattle.ice_image.specs.Bits.{Bit, OfTile, OfWord, Extra, IsBit, bit_of, Gains, number_bit, row_ones, word_ones}
use Rattle.ice_image.specs.Configuration.{Configuration, AreBanks, IsWhole, IsCramSize, IsBramSize, place_bit}
use Rattle.ice_image.specs.Contents.{tile_place, word_bit_place}
use Rattle.ice_image.specs.Owned.{is_owned}
use Rattle.ice_image.specs.Written.{IsWritten, gained_bit}
use Rattle.ice_image.proofs.Bits.{extra_in}
use Rattle.ice_image.proofs.Made.{row_word-bits}
use Rattle.ice_image.proofs.Owned.{is_owned-bit}

-- ---- bits of two numbers together

more_of-two : (m n : ℕ) → m < 2 → n < 2 → (max m n == 1) ≡ ((m == 1) || (n == 1))
more_of-two zero zero a b = refl
more_of-two zero (suc zero) a b = refl
more_of-two (suc zero) zero a b = refl
more_of-two (suc zero) (suc zero) a b = refl
more_of-two (suc (suc m)) n a b = absurd (omega arith)
more_of-two m (suc (suc n)) a b = absurd (omega arith)

pub number_bit-or : (a b k : ℕ) → number_bit (bit_or a b) k ≡ (number_bit a k || number_bit b k)
number_bit-or a b k =
    ap (λ n. n == 1) (bit_at_or a b k) ∙ more_of-two (a / 2 ^ k % 2) (b / 2 ^ k % 2) (bit_at-lt a k) (bit_at-lt b k)

-- a bit of the word of a row
pub number_bit-row : (width : ℕ) (bit : ℕ → Bool) (k : ℕ) → k < width → number_bit (word_of (row_from width bit)) k ≡ bit k
number_bit-row width bit k within =
    sym (get_or-word_bits width (word_of (row_from width bit)) k within) ∙ ap (λ bits. get_or bits k false) (row_word-bits width bit) ∙ get_or-row_from width bit k within

-- a bit that isn't gained
stays : (a b : Bool) → a ≡ b → (test : Bool) → test ≡ false → a ≡ (b || test)
stays a b same test off = same ∙ sym (or-false b) ∙ ap (λ t. b || t) (sym off)

-- ---- images

module _ (before : Configuration) (whole : IsWhole before) where
  -- an image whose configuration planes gained the bits of a row
  pub row_gains : (x y row ones : ℕ) (cram : List Rows) → row < 16
      → IsWritten (tile_place before.layout x y row) (gained_bit (tile_place before.layout x y row) before.cram ones) (columns_at before.layout.device x y) before.cram cram
      → AreBanks (cram_width before.layout.device) (cram_height before.layout.device) cram → Gains (row_ones x y row ones) before (record before { cram = cram })
  row_gains x y row ones cram row_in all banks = record {
    layout = refl;
    comment = refl;
    settings = refl;
    whole = record { layout = whole.layout; cram = banks; bram = whole.bram };
    bits = bits;
  }
    where
      layout : Layout
      layout = before.layout

      bits : (bit : Bit) → IsBit layout bit → bit_of (record before { cram = cram }) bit ≡ (bit_of before bit || row_ones x y row ones bit)
      bits (OfTile bit) is =
          let in_row : Bool = (x == bit.x) && (y == bit.y) && (row == bit.row) in
          elim (cases_Bool in_row) [
            | inl here ↦
                let rows = and_parts ((x == bit.x) && (y == bit.y)) (row == bit.row) here in
                let grid = and_parts (x == bit.x) (y == bit.y) rows.0 in
                let x_is : x ≡ bit.x = eqb-true _ _ grid.0 in
                let y_is : y ≡ bit.y = eqb-true _ _ grid.1 in
                let row_is : row ≡ bit.row = eqb-true _ _ rows.1 in
                let same : tile_place layout x y row bit.col ≡ place_of layout bit = λ i. tile_place layout (x_is i) (y_is i) (row_is i) bit.col in
                let wide : columns_at layout.device x y ≡ columns_at layout.device bit.x bit.y = λ i. columns_at layout.device (x_is i) (y_is i) in
                ap (place_bit cram) (sym same) ∙ all.written bit.col (omega (arith, wide, is.col_in)) ∙ ap (λ at. place_bit before.cram at || number_bit ones bit.col) same
                ∙ ap (λ t. place_bit before.cram (place_of layout bit) || (t && number_bit ones bit.col)) (sym here)
            | inr out ↦
                stays (place_bit cram (place_of layout bit)) (place_bit before.cram (place_of layout bit)) (all.others (place_of layout bit) (λ h.
                let other : TileBit = record { x = x; y = y; row = row; col = h.0 } in
                let e : other ≡ bit = place_is_only layout whole.layout bit other is (record { row_in = row_in; col_in = h.1 }) h.2 in
                both_ways in_row out (and_from ((x == bit.x) && (y == bit.y)) (row == bit.row)
                (and_from (x == bit.x) (y == bit.y) (eq-eqb x bit.x (ap (λ (b : TileBit). b.x) e)) (eq-eqb y bit.y (ap (λ (b : TileBit). b.y) e)))
                (eq-eqb row bit.row (ap (λ (b : TileBit). b.row) e)))))
                (in_row && number_bit ones bit.col) (and_left in_row (number_bit ones bit.col) out)
          ]
      bits (OfWord bit) is = sym (or-false (place_bit before.bram (word_place_of layout bit)))
      bits (Extra at) is =
          stays (place_bit cram at) (place_bit before.cram at) (all.others at (λ h.
          let other : TileBit = record { x = x; y = y; row = row; col = h.0 } in
          both_ways (is_owned layout at) (extra_in layout at is).1 (ap (is_owned layout) (sym h.2) ∙ is_owned-bit layout other (record { row_in = row_in; col_in = h.1 }))))
          false refl

  -- an image whose RAM planes gained the bits of a word
  pub word_gains : (x y word ones : ℕ) (bram : List Rows) → kind_of before.layout.device x y ≡ Some RamB → word < 256
      → IsWritten (word_bit_place before.layout x y word) (gained_bit (word_bit_place before.layout x y word) before.bram ones) 16 before.bram bram
      → AreBanks (bram_width before.layout.device) (bram_height before.layout.device) bram → Gains (word_ones x y word ones) before (record before { bram = bram })
  word_gains x y word ones bram lower word_in all banks = record {
    layout = refl;
    comment = refl;
    settings = refl;
    whole = record { layout = whole.layout; cram = whole.cram; bram = banks };
    bits = bits;
  }
    where
      layout : Layout
      layout = before.layout

      bits : (bit : Bit) → IsBit layout bit → bit_of (record before { bram = bram }) bit ≡ (bit_of before bit || word_ones x y word ones bit)
      bits (OfWord bit) is =
          let in_word : Bool = (x == bit.x) && (y == bit.y) && (word == bit.word) in
          elim (cases_Bool in_word) [
            | inl here ↦
                let words = and_parts ((x == bit.x) && (y == bit.y)) (word == bit.word) here in
                let grid = and_parts (x == bit.x) (y == bit.y) words.0 in
                let x_is : x ≡ bit.x = eqb-true _ _ grid.0 in
                let y_is : y ≡ bit.y = eqb-true _ _ grid.1 in
                let word_is : word ≡ bit.word = eqb-true _ _ words.1 in
                let same : word_bit_place layout x y word bit.bit ≡ word_place_of layout bit = λ i. word_bit_place layout (x_is i) (y_is i) (word_is i) bit.bit in
                ap (place_bit bram) (sym same) ∙ all.written bit.bit is.bit_in ∙ ap (λ at. place_bit before.bram at || number_bit ones bit.bit) same
                ∙ ap (λ t. place_bit before.bram (word_place_of layout bit) || (t && number_bit ones bit.bit)) (sym here)
            | inr out ↦
                stays (place_bit bram (word_place_of layout bit)) (place_bit before.bram (word_place_of layout bit)) (all.others (word_place_of layout bit) (λ h.
                let other : WordBit = record { x = x; y = y; word = word; bit = h.0 } in
                let e : other ≡ bit = word_place_is_only layout whole.layout bit other is (record { lower = lower; word_in = word_in; bit_in = h.1 }) h.2 in
                both_ways in_word out (and_from ((x == bit.x) && (y == bit.y)) (word == bit.word)
                (and_from (x == bit.x) (y == bit.y) (eq-eqb x bit.x (ap (λ (b : WordBit). b.x) e)) (eq-eqb y bit.y (ap (λ (b : WordBit). b.y) e)))
                (eq-eqb word bit.word (ap (λ (b : WordBit). b.word) e)))))
                (in_word && number_bit ones bit.bit) (and_left in_word (number_bit ones bit.bit) out)
          ]
      bits (OfTile bit) is = sym (or-false (place_bit before.cram (place_of layout bit)))
      bits (Extra at) is = sym (or-false (place_bit before.cram at))

-- the same of an image that keeps its planes inside
pub row_gains_in : (inside before after : Configuration) (width height x y row ones : ℕ) (cram : List Rows) → inside ≡ before → IsWhole inside → IsCramSize inside.layout.device width height → row < 16
    → IsWritten (tile_place inside.layout x y row) (gained_bit (tile_place inside.layout x y row) inside.cram ones) (columns_at inside.layout.device x y) inside.cram cram
    → AreBanks width height cram → after ≡ record before { cram = cram } → Gains (row_ones x y row ones) before after
row_gains_in inside before after width height x y row ones cram view whole size row_in all banks changed =
    let sized : AreBanks (cram_width inside.layout.device) (cram_height inside.layout.device) cram = rw (sym size.width_is, sym size.height_is) banks in
    subst (λ (c : Configuration). Gains (row_ones x y row ones) before c) (sym changed)
    (subst (λ (c : Configuration). Gains (row_ones x y row ones) c (record c { cram = cram })) view (row_gains inside whole x y row ones cram row_in all sized))

pub word_gains_in : (inside before after : Configuration) (width height x y word ones : ℕ) (bram : List Rows) → inside ≡ before → IsWhole inside → IsBramSize inside.layout.device width height
    → kind_of before.layout.device x y ≡ Some RamB → word < 256
    → IsWritten (word_bit_place inside.layout x y word) (gained_bit (word_bit_place inside.layout x y word) inside.bram ones) 16 inside.bram bram
    → AreBanks width height bram → after ≡ record before { bram = bram } → Gains (word_ones x y word ones) before after
word_gains_in inside before after width height x y word ones bram view whole size lower word_in all banks changed =
    let sized : AreBanks (bram_width inside.layout.device) (bram_height inside.layout.device) bram = rw (sym size.width_is, sym size.height_is) banks in
    let lower_in : kind_of inside.layout.device x y ≡ Some RamB = ap (λ (c : Configuration). kind_of c.layout.device x y) view ∙ lower in
    subst (λ (c : Configuration). Gains (word_ones x y word ones) before c) (sym changed)
    (subst (λ (c : Configuration). Gains (word_ones x y word ones) c (record c { bram = bram })) view (word_gains inside whole x y word ones bram lower_in word_in all sized))
