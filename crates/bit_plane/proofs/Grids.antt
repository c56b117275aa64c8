-- Rows of bits, their bits one by one, and the flat list of all their bits.
use Rattle.std.proofs.Common.{◌≡◌, ℕ, zero, suc, ◌+◌, ◌-◌, ◌*◌, ◌<◌, ◌≤◌, ◌≢◌, ◌⊎◌, Bool, false, List, [], ◌∷◌, ◌++◌, length, get_or, set, take, drop, replicate, refl, sym, ap, subst, inl, inr, ◌∙◌, arith, length-append, length-drop, length-set, take-append-drop, take_at, drop_at, take_all, drop-drop, take-add, get_or-take, get_or-drop, get_or-set_same, get_or-set_other, drop-set-lt, ext_get_or, length-take-le}
use Rattle.std.proofs.lemmas.Nat.{mul-le}
use Rattle.std.proofs.lemmas.List.{nil_from_length, get_or_past, set_past, take-set-le, drop-set-add, take-append-le, drop-append-le, get_or-replicate, length-replicate, take-replicate, drop-replicate}
use Rattle.std.proofs.lemmas.Bool.{cases_eq, cases_lt}
use Rattle.std.proofs.Math.Seq.{take-set-lt}
pub use Rattle.bit_plane.specs.Cut.{length-rows_of, row_at-rows_of, IsGrid-rows_of}
use Rattle.bit_plane.specs.BitList.{placed}
use Rattle.bit_plane.proofs.Places.{length-placed, part-placed, get_or-placed, get_or-placed_before, get_or-placed_after}
use Rattle.bit_plane.specs.Rows.{Rows, IsGrid, row_at, bit_at, with_row, with_bit, blank, flat, rows_of}

-- ---- bits cut into rows

-- column x of row y is the bit at position y * width + x
pub bit_at-rows_of : (width height : ℕ) (bits : List Bool) (x y : ℕ) → x < width → y < height → bit_at (rows_of width height bits) x y ≡ get_or bits (y * width + x) false
bit_at-rows_of width height bits x y column row =
    ap (λ bits. get_or bits x false) (row_at-rows_of width height bits y row) ∙ get_or-take width (drop (y * width) bits) x false column ∙ get_or-drop (y * width) bits x false

-- the rows put together again are the bits that they took
pub flat-rows_of-take : (width height : ℕ) (bits : List Bool) → flat (rows_of width height bits) ≡ take (height * width) bits
unfolding rows_of flat
flat-rows_of-take width zero bits = let e : 0 * width ≡ 0 = omega arith in rw e refl
flat-rows_of-take width (suc height) bits =
    let e : width + height * width ≡ suc height * width = omega arith in
    ap (λ rest. take width bits ++ rest) (flat-rows_of-take width height (drop width bits)) ∙ sym (take-add width (height * width) bits) ∙ ap (λ n. take n bits) e

-- the rows put together again are all bits
pub flat-rows_of : (width height : ℕ) (bits : List Bool) → length bits ≡ width * height → flat (rows_of width height bits) ≡ bits
flat-rows_of width height bits exact =
    flat-rows_of-take width height bits ∙ take_all (height * width) bits (omega arith)

-- other bits give other rows
pub same_bits : (width height : ℕ) (a b : List Bool) → length a ≡ width * height → length b ≡ width * height → rows_of width height a ≡ rows_of width height b → a ≡ b
same_bits width height a b wide_a wide_b same =
    sym (flat-rows_of width height a wide_a) ∙ ap flat same ∙ flat-rows_of width height b wide_b

-- a grid without its first row is a grid
pub IsGrid-rest : (width height : ℕ) (row : List Bool) (rows : Rows) → IsGrid width (suc height) (row ∷ rows) → IsGrid width height rows
IsGrid-rest width height row rows grid = record {
  height_is = omega (arith, grid.height_is);
  width_is = λ y within. grid.width_is (suc y) (omega arith);
}

-- a grid has width * height bits
pub length-flat : (width height : ℕ) (rows : Rows) → IsGrid width height rows → length (flat rows) ≡ width * height
unfolding flat
length-flat width zero [] grid = omega arith
length-flat width zero (row ∷ rows) grid = absurd (omega (arith, grid.height_is))
length-flat width (suc height) [] grid = absurd (omega (arith, grid.height_is))
length-flat width (suc height) (row ∷ rows) grid =
    let rest = length-flat width height rows (IsGrid-rest width height row rows grid) in
    let first : length row ≡ width = grid.width_is 0 (omega arith) in
    omega (arith, length-append row (flat rows), rest)

-- a grid's bits cut into rows again are the grid
pub rows_of-flat : (width height : ℕ) (rows : Rows) → IsGrid width height rows → rows_of width height (flat rows) ≡ rows
unfolding flat rows_of
rows_of-flat width zero [] grid = refl
rows_of-flat width zero (row ∷ rows) grid = absurd (omega (arith, grid.height_is))
rows_of-flat width (suc height) [] grid = absurd (omega (arith, grid.height_is))
rows_of-flat width (suc height) (row ∷ rows) grid =
    let first : length row ≡ width = grid.width_is 0 (omega arith) in
    rw (take_at row (flat rows) width first, drop_at row (flat rows) width first) (ap (λ rest. row ∷ rest) (rows_of-flat width height rows (IsGrid-rest width height row rows grid)))

-- a grid's bit at position y * width + x is that of column x in row y
pub get_or-flat : (width height : ℕ) (rows : Rows) (x y : ℕ) → IsGrid width height rows → x < width → y < height → get_or (flat rows) (y * width + x) false ≡ bit_at rows x y
get_or-flat width height rows x y grid column row =
    sym (bit_at-rows_of width height (flat rows) x y column row) ∙ ap (λ rows. bit_at rows x y) (rows_of-flat width height rows grid)

-- to set the bit at position y * width + x is to set column x in row y
pub rows_of-set : (width height : ℕ) (bits : List Bool) (x y : ℕ) (bit : Bool) → x < width → y < height → rows_of width height (set bits (y * width + x) bit) ≡ with_bit (rows_of width height bits) x y bit
unfolding rows_of
rows_of-set width zero bits x y bit column row = absurd (omega arith)
rows_of-set width (suc height) bits x zero bit column row =
    let e : 0 * width + x ≡ x = omega arith in
    rw (e, take-set-lt width bits x bit column, drop-set-lt width bits x bit column) refl
rows_of-set width (suc height) bits x (suc y) bit column row =
    let e : suc y * width + x ≡ width + (y * width + x) = omega arith in
    rw (e, take-set-le width bits (width + (y * width + x)) bit (omega arith), drop-set-add width bits (y * width + x) bit) (ap (λ rest. take width bits ∷ rest) (rows_of-set width height (drop width bits) x y bit column (omega arith)))

-- ---- runs of rows

-- the first rows are those of the same bits
pub take-rows_of : (width height count : ℕ) (bits : List Bool) → count ≤ height → take count (rows_of width height bits) ≡ rows_of width count bits
unfolding rows_of
take-rows_of width height zero bits within = refl
take-rows_of width zero (suc count) bits within = absurd (omega arith)
take-rows_of width (suc height) (suc count) bits within =
    ap (λ rest. take width bits ∷ rest) (take-rows_of width height count (drop width bits) (omega arith))

-- the rows from one on are those of the bits from there on
pub drop-rows_of : (width height first rest : ℕ) (bits : List Bool) → height ≡ first + rest → drop first (rows_of width height bits) ≡ rows_of width rest (drop (first * width) bits)
unfolding rows_of
drop-rows_of width height zero rest bits parts =
    let e : height ≡ rest = omega arith in
    let z : 0 * width ≡ 0 = omega arith in
    rw (e, z) refl
drop-rows_of width zero (suc first) rest bits parts = absurd (omega arith)
drop-rows_of width (suc height) (suc first) rest bits parts =
    let e : width + first * width ≡ suc first * width = omega arith in
    drop-rows_of width height first rest (drop width bits) (omega arith) ∙ ap (rows_of width rest) (drop-drop (first * width) width bits ∙ ap (λ n. drop n bits) e)

-- bits of whole rows before others are rows before others
pub rows_of-append : (width height first rest : ℕ) (front back : List Bool) → height ≡ first + rest → length front ≡ first * width → rows_of width height (front ++ back) ≡ rows_of width first front ++ rows_of width rest back
unfolding rows_of
rows_of-append width height zero rest front back parts whole =
    let e : height ≡ rest = omega arith in
    let none : front ≡ [] = nil_from_length front (omega arith) in
    rw (e, none) refl
rows_of-append width zero (suc first) rest front back parts whole = absurd (omega arith)
rows_of-append width (suc height) (suc first) rest front back parts whole =
    let room : width ≤ length front = omega arith in
    rw (take-append-le width front back room, drop-append-le width front back room) (ap (λ rest. take width front ∷ rest) (rows_of-append width height first rest (drop width front) back (omega arith) (omega (arith, length-drop width front))))

-- the bits of a run of rows, put together
pub flat-run : (width height first count : ℕ) (bits : List Bool) → first + count ≤ height → flat (take count (drop first (rows_of width height bits))) ≡ take (count * width) (drop (first * width) bits)
flat-run width height first count bits within =
    ap flat (ap (take count) (drop-rows_of width height first (height - first) bits (omega arith)) ∙ take-rows_of width (height - first) count (drop (first * width) bits) (omega arith)) ∙ flat-rows_of-take width count (drop (first * width) bits)

-- to place bits of whole rows at a row's start is to place their rows
pub rows_of-placed : (width height first count : ℕ) (part bits : List Bool) → first + count ≤ height → length part ≡ count * width → length bits ≡ width * height → rows_of width height (placed (first * width) part bits) ≡ placed first (rows_of width count part) (rows_of width height bits)
rows_of-placed width height first count part bits within whole exact =
    let above : first * width ≤ height * width = mul-le first width height width (omega arith) (omega arith) in
    let rest : ℕ = height - (first + count) in
    let front = take (first * width) bits in
    let back = drop (first * width + length part) bits in
    let front_long : length front ≡ first * width = length-take-le (first * width) bits (omega arith) in
    let both_long : length (front ++ part) ≡ (first + count) * width = omega (arith, length-append front part) in
    let parts = rows_of-append width height (first + count) rest (front ++ part) back (omega arith) both_long in
    let fronts = rows_of-append width (first + count) first count front part refl front_long in
    let before : rows_of width first front ≡ take first (rows_of width height bits) = sym (ap (λ bits. take first (rows_of width height bits)) (sym (take-append-drop (first * width) bits)) ∙ ap (take first) (rows_of-append width height first (height - first) front (drop (first * width) bits) (omega arith) front_long) ∙ take_at (rows_of width first front) (rows_of width (height - first) (drop (first * width) bits)) first (length-rows_of width first front)) in
    let past : first * width + length part ≡ (first + count) * width = omega arith in
    let rows_past : first + length (rows_of width count part) ≡ first + count = ap (λ n. first + n) (length-rows_of width count part) in
    let after : rows_of width rest back ≡ drop (first + length (rows_of width count part)) (rows_of width height bits) = rw (past, rows_past) (sym (drop-rows_of width height (first + count) rest bits (omega arith))) in
    parts ∙ ap (λ rows. rows ++ rows_of width rest back) fronts ∙ ap (λ rows. rows ++ rows_of width count part ++ rows_of width rest back) before ∙ ap (λ rows. take first (rows_of width height bits) ++ rows_of width count part ++ rows) after

-- ---- a grid bit by bit

-- two grids of one size with the same bits are one
pub same_grids : (width height : ℕ) (a b : Rows) → IsGrid width height a → IsGrid width height b → ((x y : ℕ) → x < width → y < height → bit_at a x y ≡ bit_at b x y) → a ≡ b
same_grids width height a b grid_a grid_b same =
    ext_get_or [] a b (grid_a.height_is ∙ sym grid_b.height_is) (λ y within.
    let row : y < height = omega (arith, grid_a.height_is) in
    let wide = grid_a.width_is y row in
    ext_get_or false (row_at a y) (row_at b y) (wide ∙ sym (grid_b.width_is y row)) (λ x inside. same x y (omega (arith, wide)) row))

-- another row of the same width leaves a grid
pub IsGrid-with_row : (width height : ℕ) (rows : Rows) (y : ℕ) (row : List Bool) → IsGrid width height rows → length row ≡ width → IsGrid width height (with_row rows y row)
IsGrid-with_row width height rows y row grid wide = record {
  height_is = length-set rows y row ∙ grid.height_is;
  width_is = λ k within. elim (cases_eq k y) [
    | inl e ↦
        let inside : k < length rows = omega (arith, grid.height_is) in
        subst (λ (j : ℕ). length (row_at (with_row rows j row) k) ≡ width) e (ap length (get_or-set_same rows k row [] inside) ∙ wide)
    | inr ne ↦ ap length (get_or-set_other rows y k row [] ne) ∙ grid.width_is k within
  ];
}

-- another bit leaves a grid
pub IsGrid-with_bit : (width height : ℕ) (rows : Rows) (x y : ℕ) (bit : Bool) → IsGrid width height rows → y < height → IsGrid width height (with_bit rows x y bit)
IsGrid-with_bit width height rows x y bit grid row =
    IsGrid-with_row width height rows y (set (row_at rows y) x bit) grid (length-set (row_at rows y) x bit ∙ grid.width_is y row)

-- row y after it was given
pub row_at-with_row_same : (width height : ℕ) (rows : Rows) (y : ℕ) (row : List Bool) → IsGrid width height rows → y < height → row_at (with_row rows y row) y ≡ row
row_at-with_row_same width height rows y row grid within =
    get_or-set_same rows y row [] (omega (arith, grid.height_is))

-- each other row stays
pub row_at-with_row_other : (rows : Rows) (y k : ℕ) (row : List Bool) → k ≢ y → row_at (with_row rows y row) k ≡ row_at rows k
row_at-with_row_other rows y k row other = get_or-set_other rows y k row [] other

-- a bit after it was set
pub bit_at-with_bit_same : (width height : ℕ) (rows : Rows) (x y : ℕ) (bit : Bool) → IsGrid width height rows → x < width → y < height → bit_at (with_bit rows x y bit) x y ≡ bit
bit_at-with_bit_same width height rows x y bit grid column row =
    ap (λ bits. get_or bits x false) (row_at-with_row_same width height rows y (set (row_at rows y) x bit) grid row) ∙ get_or-set_same (row_at rows y) x bit false (omega (arith, grid.width_is y row))

-- each other bit stays
pub bit_at-with_bit_other : (rows : Rows) (x y column row : ℕ) (bit : Bool) → (column ≢ x) ⊎ (row ≢ y) → bit_at (with_bit rows x y bit) column row ≡ bit_at rows column row
bit_at-with_bit_other rows x y column row bit (inr other) =
    ap (λ bits. get_or bits column false) (row_at-with_row_other rows y row (set (row_at rows y) x bit) other)
bit_at-with_bit_other rows x y column row bit (inl other) = elim (cases_eq row y) [
  | inr ne ↦ ap (λ bits. get_or bits column false) (row_at-with_row_other rows y row (set (row_at rows y) x bit) ne)
  | inl e ↦ elim (cases_lt y (length rows)) [
    | inl inside ↦ subst (λ (k : ℕ). bit_at (with_bit rows x y bit) column k ≡ bit_at rows column k) (sym e) (ap (λ bits. get_or bits column false) (get_or-set_same rows y (set (row_at rows y) x bit) [] inside) ∙ get_or-set_other (row_at rows y) x column bit false other)
    | inr past ↦ ap (λ rows. bit_at rows column row) (set_past rows y (set (row_at rows y) x bit) past)
  ]
]

-- a blank grid is a grid
pub IsGrid-blank : (width height : ℕ) → IsGrid width height (blank width height)
unfolding blank
IsGrid-blank width height = record {
  height_is = length-replicate height (replicate width false);
  width_is = λ y within. ap length (get_or-replicate height y (replicate width false) [] within) ∙ length-replicate width false;
}

-- each bit of a list of zeros is 0
pub get_or-zeros : (count n : ℕ) → get_or (replicate count false) n false ≡ false
get_or-zeros count n = elim (cases_lt n count) [
  | inl within ↦ get_or-replicate count n false false within
  | inr past ↦ get_or_past (replicate count false) n false (omega (arith, length-replicate count false))
]

-- each bit of a blank grid is 0
pub bit_at-blank : (width height x y : ℕ) → bit_at (blank width height) x y ≡ false
unfolding blank
bit_at-blank width height x y = elim (cases_lt y height) [
  | inl within ↦ ap (λ bits. get_or bits x false) (get_or-replicate height y (replicate width false) [] within) ∙ get_or-zeros width x
  | inr past ↦ ap (λ bits. get_or bits x false) (get_or_past (replicate height (replicate width false)) y [] (omega (arith, length-replicate height (replicate width false))))
]

-- zeros cut into rows are a blank grid
pub rows_of-zeros : (width height count : ℕ) → count ≡ width * height → rows_of width height (replicate count false) ≡ blank width height
unfolding rows_of blank
rows_of-zeros width zero count exact = refl
rows_of-zeros width (suc height) count exact =
    let rest = rows_of-zeros width height (count - width) (omega arith) in
    rw (take-replicate width count false (omega arith), drop-replicate width count false) (ap (λ rows. replicate width false ∷ rows) rest)

-- ---- positions of a grid

-- a bit of the part that was placed at a position
pub bit_at-put : (width height at : ℕ) (part : List Bool) (rows : Rows) (x y : ℕ) → IsGrid width height rows → at + length part ≤ width * height → x < width → y < height → at ≤ y * width + x → y * width + x < at + length part → bit_at (rows_of width height (placed at part (flat rows))) x y ≡ get_or part (y * width + x - at) false
bit_at-put width height at part rows x y grid within column row from below =
    let n : ℕ = y * width + x in
    let e : n ≡ at + (n - at) = omega arith in
    bit_at-rows_of width height (placed at part (flat rows)) x y column row ∙ ap (λ k. get_or (placed at part (flat rows)) k false) e ∙ get_or-placed at (n - at) part (flat rows) false (omega arith) (omega (arith, length-flat width height rows grid))

-- each other bit stays
pub bit_at-put_other : (width height at : ℕ) (part : List Bool) (rows : Rows) (x y : ℕ) → IsGrid width height rows → at + length part ≤ width * height → x < width → y < height → (y * width + x < at) ⊎ (at + length part ≤ y * width + x) → bit_at (rows_of width height (placed at part (flat rows))) x y ≡ bit_at rows x y
bit_at-put_other width height at part rows x y grid within column row (inl before) =
    bit_at-rows_of width height (placed at part (flat rows)) x y column row ∙ get_or-placed_before at (y * width + x) part (flat rows) false before (omega (arith, length-flat width height rows grid)) ∙ get_or-flat width height rows x y grid column row
bit_at-put_other width height at part rows x y grid within column row (inr after) =
    bit_at-rows_of width height (placed at part (flat rows)) x y column row ∙ get_or-placed_after at (y * width + x) part (flat rows) false after (omega (arith, length-flat width height rows grid)) ∙ get_or-flat width height rows x y grid column row

-- all bits after whole rows were placed
pub flat-placed : (width height first count : ℕ) (part : List Bool) (rows : Rows) → IsGrid width height rows → first + count ≤ height → length part ≡ count * width → flat (placed first (rows_of width count part) rows) ≡ placed (first * width) part (flat rows)
flat-placed width height first count part rows grid within whole =
    let bits : List Bool = flat rows in
    let exact = length-flat width height rows grid in
    let room : (first + count) * width ≤ height * width = mul-le (first + count) width height width within (omega arith) in
    let fits : first * width + length part ≤ length bits = omega arith in
    sym (ap (λ rows. flat (placed first (rows_of width count part) rows)) (rows_of-flat width height rows grid)) ∙ sym (ap flat (rows_of-placed width height first count part bits within whole exact)) ∙ flat-rows_of width height (placed (first * width) part bits) (length-placed (first * width) part bits fits ∙ exact)

-- the bits of whole rows that were placed
pub flat-run_placed : (width first count : ℕ) (part : List Bool) (rows : Rows) → first ≤ length rows → length part ≡ count * width → flat (take count (drop first (placed first (rows_of width count part) rows))) ≡ part
flat-run_placed width first count part rows within whole =
    let tall = length-rows_of width count part in
    ap flat (ap (λ n. take n (drop first (placed first (rows_of width count part) rows))) (sym tall) ∙ part-placed first (rows_of width count part) rows within) ∙ flat-rows_of width count part (omega arith)
