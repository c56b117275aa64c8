-- Bits that are written one after the other.
use Rattle.std.proofs.Common.{◌≡◌, ℕ, ◌+◌, ◌/◌, ◌^◌, ◌<◌, ◌==◌, Bool, false, List, get_or, bit_and, refl, sym, ap, ◌∙◌, subst, inl, inr, arith}
use Rattle.std.proofs.lemmas.Bool.{cases_lt}
use Rattle.std.proofs.lemmas.Nat.Bits.{shr_and_one}
use Rattle.bit_plane.proofs.Words.{get_or-word_bits, word_bits-word_of}
use Rattle.bit_plane.specs.BitList.{word_bits, word_of}
use Rattle.bit_plane.specs.Rows.{Rows, IsGrid, row_at, bit_at, rows_from}
use Rattle.plane_map.specs.Layout.{Layout, IsLayout, columns_at}
use Rattle.ice_image.specs.Configuration.{place_bit, SameBut}
use Rattle.ice_image.specs.Contents.{tile_place, tile_rows, IsPlaceOfTile, word_bit_place, word_value, IsPlaceOfWord}
use Rattle.ice_image.specs.Written.{IsWritten, AreRowsWritten, bit_of_word}
use Rattle.ice_image.proofs.Made.{rows_from-is, row_word-is}
use Rattle.ice_image.proofs.TileColumns.{tile_place-same}

-- a bit of a word, as code tests it
pub tested_bit : (count word k : ℕ) → k < count → bit_of_word count word k ≡ (bit_and (word / 2 ^ k) 1 == 1)
tested_bit count word k within = get_or-word_bits count word k within ∙ ap (λ n. n == 1) (sym (shr_and_one word k))

-- ---- rows of a tile

module _ (layout : Layout) (sound : IsLayout layout) (x y width : ℕ) (tile : Rows) (wide : columns_at layout.device x y ≡ width) where
  -- no row yet
  pub rows_written-none : (planes : List Rows) → AreRowsWritten layout x y width tile 0 planes planes
  rows_written-none planes = record {
    written = λ row col before column. absurd (omega arith);
    others = λ at apart. refl;
    shape = λ some. absurd (omega arith);
  }

  -- one row more
  pub rows_written-more : (r word : ℕ) (before now after : List Rows) → r < 16 → AreRowsWritten layout x y width tile r before now → IsWritten (tile_place layout x y r) (bit_of_word width word) width now after → word ≡ word_of (row_at tile r) → IsGrid width 16 tile → AreRowsWritten layout x y width tile (r + 1) before after
  rows_written-more r word before now after inside so_far row_written word_is grid =
      let bits : word_bits width word ≡ row_at tile r = ap (word_bits width) word_is ∙ ap (λ n. word_bits n (word_of (row_at tile r))) (sym (grid.width_is r inside)) ∙ word_bits-word_of (row_at tile r) in
      record {
        written = λ row col before_next column. elim (cases_lt row r) [
          | inl earlier ↦
              row_written.others (tile_place layout x y row col) (λ h.
              let same = tile_place-same layout sound x y r h.0 row col inside (omega (arith, h.1, wide)) (omega arith) (omega (arith, wide)) h.2 in
              absurd (omega (arith, same.0))) ∙ so_far.written row col earlier column
          | inr last ↦
              let e : r ≡ row = omega arith in
              subst (λ (row : ℕ). place_bit after (tile_place layout x y row col) ≡ bit_at tile col row) e (row_written.written col column ∙ ap (λ bits. get_or bits col false) bits)
        ];
        others = λ at apart.
            row_written.others at (λ h. apart (r, h.0, (let next : r < r + 1 = omega arith in next), h.1, h.2)) ∙ so_far.others at (λ h. apart (h.0, h.1, (let next : h.0 < r + 1 = omega (arith, h.2) in next), h.3, h.4));
        shape = λ some. grid;
      }

  -- all rows
  pub rows_written-all : (r : ℕ) (before after : List Rows) → r ≡ 16 → AreRowsWritten layout x y width tile r before after → (tile_rows layout after x y ≡ tile) × SameBut (IsPlaceOfTile layout x y) before after
  rows_written-all r before after last whole =
      let bit : ℕ → ℕ → Bool = λ col row. place_bit after (tile_place layout x y row col) in
      (ap (λ width. rows_from width 16 bit) wide ∙ rows_from-is width 16 bit tile (whole.shape (omega arith)) (λ col row column within. whole.written row col (omega arith) column), λ at apart. whole.others at (λ h. apart (h.0, h.1, (let within : h.0 < 16 = omega (arith, h.2) in within), (let column : h.1 < columns_at layout.device x y = omega (arith, h.3, wide) in column), h.4)))

-- ---- the word of a RAM

-- all bits
pub word-all : (layout : Layout) (x y word value n : ℕ) (before after : List Rows) → n ≡ 16 → value < 2 ^ 16 → IsWritten (word_bit_place layout x y word) (bit_of_word 16 value) n before after → (word_value layout after x y word ≡ value) × SameBut (IsPlaceOfWord layout x y word) before after
word-all layout x y word value n before after last small whole =
    let bit : ℕ → Bool = λ bit. place_bit after (word_bit_place layout x y word bit) in
    (row_word-is 16 bit value small (λ k within. whole.written k (omega arith)), λ at apart. whole.others at (λ h. apart (h.0, (let within : h.0 < 16 = omega (arith, h.1) in within), h.2)))
