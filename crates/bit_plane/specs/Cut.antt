-- The rows that bits are cut into are a grid, the law of a plane that keeps its bits in one list.
use Rattle.std.proofs.Common.{◌≡◌, ℕ, zero, suc, ◌+◌, ◌*◌, ◌<◌, ◌≤◌, Bool, List, length, take, drop, refl, ap, ◌∙◌, arith, length-drop, drop-drop, length-take-le}
use Rattle.std.proofs.lemmas.Nat.{mul-le}
use Rattle.bit_plane.specs.Rows.{IsGrid, row_at, rows_of}

-- there are `height` rows
pub length-rows_of : (width height : ℕ) (bits : List Bool) → length (rows_of width height bits) ≡ height
unfolding rows_of
length-rows_of width zero bits = refl
length-rows_of width (suc height) bits = ap suc (length-rows_of width height (drop width bits))

-- row y has the bits from position y * width on
pub row_at-rows_of : (width height : ℕ) (bits : List Bool) (y : ℕ) → y < height → row_at (rows_of width height bits) y ≡ take width (drop (y * width) bits)
unfolding rows_of
row_at-rows_of width zero bits y within = absurd (omega arith)
row_at-rows_of width (suc height) bits zero within =
    let e : 0 * width ≡ 0 = omega arith in rw e refl
row_at-rows_of width (suc height) bits (suc y) within =
    let e : width + y * width ≡ suc y * width = omega arith in
    row_at-rows_of width height (drop width bits) y (omega arith) ∙ ap (take width) (drop-drop (y * width) width bits ∙ ap (λ n. drop n bits) e)

-- bits enough for all rows give whole rows
pub IsGrid-rows_of : (width height : ℕ) (bits : List Bool) → length bits ≡ width * height → IsGrid width height (rows_of width height bits)
IsGrid-rows_of width height bits enough = record {
  height_is = length-rows_of width height bits;
  width_is = λ y within.
      let room : suc y * width ≤ height * width = mul-le (suc y) width height width (omega arith) (omega arith) in
      ap length (row_at-rows_of width height bits y within) ∙ length-take-le width (drop (y * width) bits) (omega (arith, length-drop (y * width) bits));
}
