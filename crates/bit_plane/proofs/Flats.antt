-- What a change or a reading of a plane's flat bits means for its rows.
use Rattle.std.proofs.Common.{◌≡◌, ℕ, zero, suc, ◌+◌, ◌*◌, ◌<◌, ◌≤◌, Bool, List, ◌∷◌, length, take, drop, refl, sym, ap, ◌∙◌, arith, ◌-◌, take-take, drop-drop, length-drop}
use Rattle.std.proofs.lemmas.Nat.{mul-le}
use Rattle.std.proofs.lemmas.List.{drop-take}
use Rattle.bit_plane.specs.BitList.{placed, bytes_of, word_of}
use Rattle.bit_plane.specs.Rows.{row_at, with_row, flat, rows_of}
use Rattle.bit_plane.proofs.Bytes.{bytes_of-take}
use Rattle.bit_plane.proofs.Places.{take-placed, drop-placed, take-placed_before, drop-placed_before}
use Rattle.bit_plane.proofs.Grids.{row_at-rows_of, flat-run}

-- bits within a row lie within the flat bits
pub within_row : (width height x y count : ℕ) → y < height → x + count ≤ width → y * width + x + count ≤ width * height
within_row width height x y count row columns =
    let room : (y + 1) * width ≤ height * width = mul-le (y + 1) width height width (omega arith) (omega arith) in
    omega (arith, room)

-- whole rows lie within the flat bits
pub run_within : (width height first count n len : ℕ) → first + count ≤ height → n ≡ count * width → len ≡ width * height → first * width + n ≤ len
run_within width height first count n len within whole exact =
    let room : (first + count) * width ≤ height * width = mul-le (first + count) width height width within (omega arith) in
    omega (arith, room)

-- the bytes of a run of rows
pub run_read : (width height first count n : ℕ) (bits : List Bool) → first + count ≤ height → 8 * n ≡ count * width → bytes_of n (drop (first * width) bits) ≡ bytes_of n (flat (take count (drop first (rows_of width height bits))))
run_read width height first count n bits within whole =
    sym (ap (bytes_of n) (flat-run width height first count bits within) ∙ bytes_of-take n (count * width) (drop (first * width) bits) (omega arith))

-- bits placed within one row
pub rows_of-placed_in_row : (width height x y : ℕ) (part bits : List Bool) → x + length part ≤ width → y < height → length bits ≡ width * height → rows_of width height (placed (y * width + x) part bits) ≡ with_row (rows_of width height bits) y (placed x part (row_at (rows_of width height bits) y))
unfolding rows_of
rows_of-placed_in_row width zero x y part bits columns row exact = absurd (omega arith)
rows_of-placed_in_row width (suc height) x zero part bits columns row exact =
    let e : 0 * width + x ≡ x = omega arith in
    let long : width ≤ length bits = omega arith in
    rw (e, take-placed x width part bits columns long, drop-placed x width part bits columns long) refl
rows_of-placed_in_row width (suc height) x (suc y) part bits columns row exact =
    let e : suc y * width + x ≡ width + (y * width + x) = omega arith in
    let room : suc y * width ≤ height * width = mul-le (suc y) width height width (omega arith) (omega arith) in
    let long : width + (y * width + x) ≤ length bits = omega arith in
    rw (e, take-placed_before (width + (y * width + x)) width part bits (omega arith) long, drop-placed_before width (y * width + x) part bits long) (ap (λ rest. take width bits ∷ rest) (rows_of-placed_in_row width height x y part (drop width bits) columns (omega arith) (omega (arith, length-drop width bits))))

-- the word of some bits of one row
pub row_read : (width height x y count word : ℕ) (bits lent : List Bool) → x + count ≤ width → y < height → lent ≡ bits → word ≡ word_of (take count (drop (y * width + x) lent)) → word ≡ word_of (take count (drop x (row_at (rows_of width height bits) y)))
row_read width height x y count word bits lent columns row lent_is word_is =
    let parts : width ≡ x + (width - x) = omega arith in
    let cut : drop x (take width (drop (y * width) bits)) ≡ take (width - x) (drop x (drop (y * width) bits)) = ap (λ n. drop x (take n (drop (y * width) bits))) parts ∙ drop-take x (width - x) (drop (y * width) bits) in
    let read : take count (drop x (row_at (rows_of width height bits) y)) ≡ take count (drop (y * width + x) bits) = ap (λ bits. take count (drop x bits)) (row_at-rows_of width height bits y row) ∙ ap (take count) cut ∙ take-take count (width - x) (drop x (drop (y * width) bits)) (omega arith) ∙ ap (take count) (drop-drop x (y * width) bits) in
    word_is ∙ ap (λ bits. word_of (take count (drop (y * width + x) bits))) lent_is ∙ ap word_of (sym read)
