-- Rows that are made from the bit of each column and row, and their words.
use Rattle.std.proofs.Common.{◌≡◌, ℕ, suc, ◌+◌, ◌-◌, ◌*◌, ◌^◌, ◌<◌, ◌≤◌, Bool, false, List, ◌∷◌, [], ◌++◌, length, get_or, take, drop, refl, sym, ap, ap₂, ◌∙◌, subst, arith, ext_get_or, take_all, length-drop, pow_mono}
use mir.Val.{bool_byte}
use Rattle.std.proofs.lemmas.List.{take_more_set}
use Rattle.bit_plane.proofs.Grids.{same_grids, IsGrid-blank}
use Rattle.bit_plane.proofs.Made.{length-row_from, get_or-row_from, IsGrid-rows_from, bit_at-rows_from}
use Rattle.bit_plane.proofs.Words.{bool_byte-is, word_of-lt, word_of-drop_all, word_step, length-word_bits, word_bits-word_of, word_of-word_bits}
use Rattle.bit_plane.specs.BitList.{bit_value, word_bits, word_of}
use Rattle.bit_plane.specs.Rows.{Rows, IsGrid, bit_at, with_row, blank, row_from, rows_from}

-- bits that are those of each column are the row
pub row_from-is : (width : ℕ) (bit : ℕ → Bool) (row : List Bool) → length row ≡ width → ((x : ℕ) → x < width → bit x ≡ get_or row x false) → row_from width bit ≡ row
row_from-is width bit row wide same =
    ext_get_or false (row_from width bit) row (length-row_from width bit ∙ sym wide) (λ x inside.
    let within : x < width = omega (arith, length-row_from width bit) in
    get_or-row_from width bit x within ∙ same x within)

-- a grid with the bits of each column and row is those rows
pub rows_from-is : (width height : ℕ) (bit : ℕ → ℕ → Bool) (rows : Rows) → IsGrid width height rows → ((x y : ℕ) → x < width → y < height → bit x y ≡ bit_at rows x y) → rows_from width height bit ≡ rows
rows_from-is width height bit rows grid same =
    same_grids width height (rows_from width height bit) rows (IsGrid-rows_from width height bit) grid (λ x y column row.
    bit_at-rows_from width height bit x y column row ∙ same x y column row)

-- ---- the word of a row

-- no columns yet
pub row_word-none : (width : ℕ) (bit : ℕ → Bool) → 0 ≡ word_of (drop width (row_from width bit))
row_word-none width bit =
    sym (word_of-drop_all (row_from width bit)) ∙ ap (λ n. word_of (drop n (row_from width bit))) (length-row_from width bit)

-- the column before
pub row_word-more : (width : ℕ) (bit : ℕ → Bool) (i word here : ℕ) (read : Bool) → 0 < i → i ≤ width → word ≡ word_of (drop i (row_from width bit)) → here ≡ bool_byte read → read ≡ bit (i - 1) → 2 * word + here ≡ word_of (drop (i - 1) (row_from width bit))
row_word-more width bit i word here read some within word_is here_is read_is =
    word_step (row_from width bit) i word here some (omega (arith, length-row_from width bit)) word_is (here_is ∙ bool_byte-is read ∙ ap bit_value (read_is ∙ sym (get_or-row_from width bit (i - 1) (omega arith))))

-- a row's word is below that power of 2
pub row_word-lt : (width : ℕ) (bit : ℕ → Bool) (n : ℕ) → word_of (drop n (row_from width bit)) < 2 ^ width
row_word-lt width bit n =
    let bits : List Bool = drop n (row_from width bit) in
    let short : length bits ≤ width = omega (arith, length-drop n (row_from width bit), length-row_from width bit) in
    omega (arith, word_of-lt bits, pow_mono {i = length bits} {j = width} short)

-- there is room for one column more
pub row_word-double : (width : ℕ) (bit : ℕ → Bool) (i word : ℕ) → 0 < i → i ≤ width → word ≡ word_of (drop i (row_from width bit)) → 2 * word < 2 ^ width
row_word-double width bit i word some within word_is =
    let step = row_word-more width bit i word (bool_byte (bit (i - 1))) (bit (i - 1)) some within word_is refl refl in
    omega (arith, step, row_word-lt width bit (i - 1))

-- and so is the whole row's
pub row_word-below : (width : ℕ) (bit : ℕ → Bool) (word : ℕ) → word ≡ word_of (row_from width bit) → word < 2 ^ width
row_word-below width bit word word_is =
    omega (arith, word_is, word_of-lt (row_from width bit), ap (λ n. 2 ^ n) (length-row_from width bit))

-- the bits of a row's word are the row
pub row_word-bits : (width : ℕ) (bit : ℕ → Bool) → word_bits width (word_of (row_from width bit)) ≡ row_from width bit
row_word-bits width bit =
    ap (λ n. word_bits n (word_of (row_from width bit))) (sym (length-row_from width bit)) ∙ word_bits-word_of (row_from width bit)

-- a number is the word of the row of its bits
pub row_word-is : (width : ℕ) (bit : ℕ → Bool) (n : ℕ) → n < 2 ^ width → ((i : ℕ) → i < width → bit i ≡ get_or (word_bits width n) i false) → word_of (row_from width bit) ≡ n
row_word-is width bit n small same =
    ap word_of (row_from-is width bit (word_bits width n) (length-word_bits width n) same) ∙ word_of-word_bits width n small

-- ---- rows, one after the other

-- no row yet
pub rows-none : (width height : ℕ) (bit : ℕ → ℕ → Bool) (rows : Rows) → rows ≡ blank width height → (take 0 rows ≡ rows_from width 0 bit) × IsGrid width height rows
unfolding rows_from
rows-none width height bit rows start = (refl, subst (IsGrid width height) (sym start) (IsGrid-blank width height))

-- one row more
pub rows-more : (width height : ℕ) (bit : ℕ → ℕ → Bool) (y at word : ℕ) (rows next : Rows) → IsGrid width height rows → y < height → take y rows ≡ rows_from width y bit → word ≡ word_of (row_from width (λ x. bit x y)) → at ≡ y → next ≡ with_row rows at (word_bits width word) → take (y + 1) next ≡ rows_from width (y + 1) bit
unfolding rows_from
rows-more width height bit y at word rows next grid within so_far word_is at_is next_is =
    let e : y + 1 ≡ suc y = omega arith in
    ap (take (y + 1)) (next_is ∙ ap (λ y. with_row rows y (word_bits width word)) at_is) ∙ take_more_set rows y (word_bits width word) (omega (arith, grid.height_is)) ∙ ap₂ (λ rows row. rows ++ row ∷ []) so_far (ap (word_bits width) word_is ∙ row_word-bits width (λ x. bit x y)) ∙ rw e refl

-- all rows
pub rows-all : (width height : ℕ) (bit : ℕ → ℕ → Bool) (y columns : ℕ) (rows : Rows) → IsGrid width height rows → y ≡ height → columns ≡ width → take y rows ≡ rows_from width y bit → rows ≡ rows_from columns height bit
rows-all width height bit y columns rows grid last wide whole =
    sym (take_all y rows (omega (arith, grid.height_is))) ∙ whole ∙ ap₂ (λ width height. rows_from width height bit) (sym wide) last
