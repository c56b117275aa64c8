-- Rows that are made from the bit of each column and row.
use Rattle.std.proofs.Common.{◌≡◌, ℕ, zero, suc, ◌<◌, Bool, false, [], ◌∷◌, length, get_or, refl, sym, ap, ◌∙◌, inl, inr, arith}
use Rattle.std.proofs.lemmas.Bool.{cases_eq}
use Rattle.std.proofs.lemmas.List.{length-append, get_or_append_left, get_or_push}
use Rattle.bit_plane.specs.Rows.{IsGrid, row_at, bit_at, row_from, rows_from}

-- the number of bits that was asked for
pub length-row_from : (width : ℕ) (bit : ℕ → Bool) → length (row_from width bit) ≡ width
unfolding row_from
length-row_from zero bit = refl
length-row_from (suc width) bit = omega (arith, length-append (row_from width bit) (bit width ∷ []), length-row_from width bit)

-- each column has its bit
pub get_or-row_from : (width : ℕ) (bit : ℕ → Bool) (x : ℕ) → x < width → get_or (row_from width bit) x false ≡ bit x
unfolding row_from
get_or-row_from zero bit x within = absurd (omega arith)
get_or-row_from (suc width) bit x within =
    elim (cases_eq x width) [
      | inl last ↦ get_or_push (row_from width bit) (bit width) false x (length-row_from width bit ∙ sym last) ∙ ap bit (sym last)
      | inr before ↦ get_or_append_left (row_from width bit) (bit width ∷ []) false x (omega (arith, length-row_from width bit)) ∙ get_or-row_from width bit x (omega arith)
    ]

-- the number of rows that was asked for
pub length-rows_from : (width height : ℕ) (bit : ℕ → ℕ → Bool) → length (rows_from width height bit) ≡ height
unfolding rows_from
length-rows_from width zero bit = refl
length-rows_from width (suc height) bit = omega (arith, length-append (rows_from width height bit) (row_from width (λ x. bit x height) ∷ []), length-rows_from width height bit)

-- each row is that of its bits
pub row_at-rows_from : (width height : ℕ) (bit : ℕ → ℕ → Bool) (y : ℕ) → y < height → row_at (rows_from width height bit) y ≡ row_from width (λ x. bit x y)
unfolding rows_from
row_at-rows_from width zero bit y within = absurd (omega arith)
row_at-rows_from width (suc height) bit y within =
    let row = row_from width (λ x. bit x height) in
    elim (cases_eq y height) [
      | inl last ↦ get_or_push (rows_from width height bit) row [] y (length-rows_from width height bit ∙ sym last) ∙ ap (λ k. row_from width (λ x. bit x k)) (sym last)
      | inr before ↦ get_or_append_left (rows_from width height bit) (row ∷ []) [] y (omega (arith, length-rows_from width height bit)) ∙ row_at-rows_from width height bit y (omega arith)
    ]

-- they are a grid
pub IsGrid-rows_from : (width height : ℕ) (bit : ℕ → ℕ → Bool) → IsGrid width height (rows_from width height bit)
IsGrid-rows_from width height bit = record {
  height_is = length-rows_from width height bit;
  width_is = λ y within. ap length (row_at-rows_from width height bit y within) ∙ length-row_from width (λ x. bit x y);
}

-- each place has its bit
pub bit_at-rows_from : (width height : ℕ) (bit : ℕ → ℕ → Bool) (x y : ℕ) → x < width → y < height → bit_at (rows_from width height bit) x y ≡ bit x y
bit_at-rows_from width height bit x y column row =
    ap (λ bits. get_or bits x false) (row_at-rows_from width height bit y row) ∙ get_or-row_from width (λ k. bit k y) x column
