-- What is written into a plane's words, and read from them, as bits of its rows.
use Rattle.std.proofs.Common.{◌≡◌, ℕ, zero, suc, ◌+◌, ◌-◌, ◌*◌, ◌/◌, ◌==◌, ◌^◌, ◌<◌, ◌≤◌, Bool, true, false, List, [], ◌∷◌, ◌++◌, length, get_or, set, take, drop, replicate, refl, sym, ap, ap₂, ◌∙◌, arith, append_assoc, take_at, drop_at, take-take, take-append-drop, length-take-le}
use mir.Val.{bool_byte}
use Rattle.std.proofs.lemmas.List.{drop-take, take-set, drop-set, take-replicate, drop-replicate, replicate-append-replicate, length-replicate}
use Rattle.bit_plane.specs.BitList.{word_bits, word_of, bytes_of, placed}
use Rattle.bit_plane.specs.Rows.{rows_of, row_at, bit_at, blank}
use Rattle.bit_plane.specs.inside.Packed.{packed, rows_in, IsClearFrom}
use Rattle.bit_plane.proofs.Words.{length-word_bits, word_of-word_bits, word_bits-zeros}
use Rattle.bit_plane.proofs.Bytes.{bytes_of-take}
use Rattle.bit_plane.proofs.Places.{take-placed, drop-placed}
use Rattle.bit_plane.proofs.Packed.{length-packed}
use Rattle.bit_plane.proofs.Grids.{same_bits, rows_of-zeros, bit_at-rows_of}
use Rattle.bit_plane.proofs.Flats.{within_row, row_read}

-- ---- what is written

-- the words of a vector were lent, and came back with a part of their bits written
pub record IsWritten (size at len : ℕ) (part : List Bool) (words lent new : List ℕ) : Type 0 where
  pub within : at + length part ≤ size
  pub sized : len ≡ size / 64 + 1
  pub items : len ≡ length words
  pub lent_is : lent ≡ words
  pub same : length new ≡ length lent
  pub new_is : packed new ≡ placed at part (packed lent)

-- the vector's words then
abbrev pub words_after : ℕ → List ℕ → List ℕ → List ℕ
words_after len words new = take len (new ++ drop (length new) words)

words_after-is : (size at len : ℕ) (part : List Bool) (words lent new : List ℕ) → IsWritten size at len part words lent new → words_after len words new ≡ new
words_after-is size at len part words lent new written =
    take_at new (drop (length new) words) len (written.same ∙ ap length written.lent_is ∙ sym written.items)

-- words enough for all bits
enough : (size len : ℕ) (words : List ℕ) → len ≡ size / 64 + 1 → len ≡ length words → size ≤ length (packed words)
enough size len words sized items = omega (arith, sized, items, length-packed words)

-- the bits up to the last one of the rows
pub bits_after : (size at len : ℕ) (part : List Bool) (words lent new : List ℕ) → IsWritten size at len part words lent new → take size (packed (words_after len words new)) ≡ placed at part (take size (packed words))
bits_after size at len part words lent new written =
    ap (λ ws. take size (packed ws)) (words_after-is size at len part words lent new written) ∙ ap (take size) (written.new_is ∙ ap (λ ws. placed at part (packed ws)) written.lent_is) ∙ take-placed at size part (packed words) written.within (enough size len words written.sized written.items)

-- the bits past the rows stay clear
pub clear_after : (size at len : ℕ) (part : List Bool) (words lent new : List ℕ) → IsWritten size at len part words lent new → IsClearFrom size words → IsClearFrom size (words_after len words new)
clear_after size at len part words lent new written clear =
    let after : List ℕ = words_after len words new in
    let is : after ≡ new = words_after-is size at len part words lent new written in
    let same : length after ≡ length words = ap length is ∙ written.same ∙ ap length written.lent_is in
    ap (λ ws. drop size (packed ws)) is ∙ ap (drop size) (written.new_is ∙ ap (λ ws. placed at part (packed ws)) written.lent_is) ∙ drop-placed at size part (packed words) written.within (enough size len words written.sized written.items) ∙ clear ∙ ap (λ n. replicate (64 * n - size) false) (sym same)

-- one item of a list written
pub placed-one : {A : Type 0} (at : ℕ) (item : A) (whole : List A) → at < length whole → placed at (item ∷ []) whole ≡ set whole at item
placed-one {A} at item whole within =
    append_assoc (take at whole) (item ∷ []) (drop (at + 1) whole) ∙ sym (ap₂ (λ (front back : List A). front ++ back) (take-set whole at item) (drop-set whole at item within)) ∙ take-append-drop at (set whole at item)

-- the one low bit of a Boolean's number
pub one_bit : (bit : Bool) → word_bits 1 (bool_byte bit) ≡ bit ∷ []
unfolding word_bits
one_bit true = refl
one_bit false = refl

-- ---- what is read

-- bits within the first ones are read alike
pub read_within : (size at count : ℕ) (bits : List Bool) → at + count ≤ size → take count (drop at (take size bits)) ≡ take count (drop at bits)
read_within size at count bits within =
    let e : size ≡ at + (size - at) = omega arith in
    ap (λ n. take count (drop at (take n bits))) e ∙ ap (take count) (drop-take at (size - at) bits) ∙ take-take count (size - at) (drop at bits) (omega arith)

-- so are bytes
pub bytes_within : (size at count : ℕ) (bits : List Bool) → at + 8 * count ≤ size → bytes_of count (drop at (take size bits)) ≡ bytes_of count (drop at bits)
bytes_within size at count bits within =
    let e : size ≡ at + (size - at) = omega arith in
    ap (λ n. bytes_of count (drop at (take n bits))) e ∙ ap (bytes_of count) (drop-take at (size - at) bits) ∙ bytes_of-take count (size - at) (drop at bits) (omega arith)

-- the number of one bit determines the bit
pub one_read : (bits : List Bool) (at : ℕ) → at < length bits → (word_of (take 1 (drop at bits)) == 1) ≡ get_or bits at false
unfolding word_of
one_read [] at within = absurd (omega arith)
one_read (true ∷ bits) zero within = refl
one_read (false ∷ bits) zero within = refl
one_read (bit ∷ bits) (suc at) within = one_read bits at (omega arith)

-- bits within the rows, read from the words that were lent
lent_read : (size at count n : ℕ) (words lent : List ℕ) → at + count ≤ size → lent ≡ words → n ≡ word_of (take count (drop at (packed lent))) → n ≡ word_of (take count (drop at (take size (packed words))))
lent_read size at count n words lent within lent_is n_is =
    n_is ∙ ap (λ ws. word_of (take count (drop at (packed ws)))) lent_is ∙ ap word_of (sym (read_within size at count (packed words) within))

-- the number of some bits of one row
pub word_in_rows : (width height : ℕ) (words lent : List ℕ) (x y count n : ℕ) → x + count ≤ width → y < height → lent ≡ words → n ≡ word_of (take count (drop (y * width + x) (packed lent))) → n ≡ word_of (take count (drop x (row_at (rows_in width height words) y)))
word_in_rows width height words lent x y count n columns row lent_is n_is =
    let size : ℕ = width * height in
    let bits : List Bool = take size (packed words) in
    let within : y * width + x + count ≤ size = within_row width height x y count row columns in
    row_read width height x y count n bits bits columns row refl (lent_read size (y * width + x) count n words lent within lent_is n_is)

-- one bit of the rows, by the number of it
pub bit_in_rows : (width height : ℕ) (words lent : List ℕ) (x y n : ℕ) → x < width → y < height → length words ≡ width * height / 64 + 1 → lent ≡ words → n ≡ word_of (take 1 (drop (y * width + x) (packed lent))) → (n == 1) ≡ bit_at (rows_in width height words) x y
bit_in_rows width height words lent x y n column row sized lent_is n_is =
    let size : ℕ = width * height in
    let at : ℕ = y * width + x in
    let bits : List Bool = take size (packed words) in
    let within : at + 1 ≤ size = within_row width height x y 1 row (omega (arith, column)) in
    let exact : length bits ≡ size = length-take-le size (packed words) (omega (arith, sized, length-packed words)) in
    let read : n ≡ word_of (take 1 (drop at bits)) = lent_read size at 1 n words lent within lent_is n_is in
    ap (λ m. m == 1) read ∙ one_read bits at (omega (arith, exact, within)) ∙ sym (bit_at-rows_of width height bits x y column row)

-- ---- planes that are equal

-- words with the same bits are the same
pub packed-same : (a b : List ℕ) → ((i : ℕ) → get_or a i 0 < 2 ^ 64) → ((i : ℕ) → get_or b i 0 < 2 ^ 64) → length a ≡ length b → packed a ≡ packed b → a ≡ b
unfolding packed
packed-same [] [] a_small b_small long same = refl
packed-same [] (y ∷ b) a_small b_small long same = absurd (omega (arith, long))
packed-same (x ∷ a) [] a_small b_small long same = absurd (omega (arith, long))
packed-same (x ∷ a) (y ∷ b) a_small b_small long same =
    let x_long : length (word_bits 64 x) ≡ 64 = length-word_bits 64 x in
    let y_long : length (word_bits 64 y) ≡ 64 = length-word_bits 64 y in
    let fronts : word_bits 64 x ≡ word_bits 64 y = sym (take_at (word_bits 64 x) (packed a) 64 x_long) ∙ ap (take 64) same ∙ take_at (word_bits 64 y) (packed b) 64 y_long in
    let backs : packed a ≡ packed b = sym (drop_at (word_bits 64 x) (packed a) 64 x_long) ∙ ap (drop 64) same ∙ drop_at (word_bits 64 y) (packed b) 64 y_long in
    let heads : x ≡ y = sym (word_of-word_bits 64 x (a_small 0)) ∙ ap word_of fronts ∙ word_of-word_bits 64 y (b_small 0) in
    ap₂ (λ first rest. first ∷ rest) heads (packed-same a b (λ i. a_small (suc i)) (λ i. b_small (suc i)) (omega (arith, long)) backs)

-- the same rows stand in words with the same bits, if those past the rows are clear
pub bits_same : (width height : ℕ) (a b : List ℕ) → length a ≡ width * height / 64 + 1 → length b ≡ width * height / 64 + 1 → IsClearFrom (width * height) a → IsClearFrom (width * height) b → rows_in width height a ≡ rows_in width height b → packed a ≡ packed b
bits_same width height a b a_sized b_sized a_clear b_clear same =
    let size : ℕ = width * height in
    let a_long : length (take size (packed a)) ≡ size = length-take-le size (packed a) (omega (arith, a_sized, length-packed a)) in
    let b_long : length (take size (packed b)) ≡ size = length-take-le size (packed b) (omega (arith, b_sized, length-packed b)) in
    let fronts : take size (packed a) ≡ take size (packed b) = same_bits width height (take size (packed a)) (take size (packed b)) a_long b_long same in
    let backs : drop size (packed a) ≡ drop size (packed b) = a_clear ∙ ap (λ n. replicate (64 * n - size) false) (a_sized ∙ sym b_sized) ∙ sym b_clear in
    sym (take-append-drop size (packed a)) ∙ ap₂ (λ (front back : List Bool). front ++ back) fronts backs ∙ take-append-drop size (packed b)

-- ---- words of zeros

packed-zeros : (count : ℕ) → packed (replicate count 0) ≡ replicate (64 * count) false
unfolding packed
packed-zeros zero = refl
packed-zeros (suc count) =
    let e : 64 * suc count ≡ 64 + 64 * count = omega arith in
    ap₂ (λ (front back : List Bool). front ++ back) (word_bits-zeros 64) (packed-zeros count) ∙ replicate-append-replicate 64 (64 * count) false ∙ sym (ap (λ n. replicate n false) e)

-- they have blank rows
pub rows_in-zeros : (width height count : ℕ) → count ≡ width * height / 64 + 1 → rows_in width height (replicate count 0) ≡ blank width height
rows_in-zeros width height count sized =
    let size : ℕ = width * height in
    let bits : take size (packed (replicate count 0)) ≡ replicate size false = ap (take size) (packed-zeros count) ∙ take-replicate size (64 * count) false (omega (arith, sized)) in
    ap (rows_of width height) bits ∙ rows_of-zeros width height size refl

-- and are clear past them
pub clear-zeros : (size count : ℕ) → IsClearFrom size (replicate count 0)
clear-zeros size count =
    ap (drop size) (packed-zeros count) ∙ drop-replicate size (64 * count) false ∙ ap (λ n. replicate (64 * n - size) false) (sym (length-replicate count 0))
