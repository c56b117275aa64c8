-- Bytes of a stream, eight at once.
use Rattle.std.proofs.Common.{◌≡◌, ℕ, zero, suc, ◌+◌, ◌*◌, ◌≤◌, Bool, List, ◌∷◌, ◌++◌, length, take, drop, refl, sym, ap, ap₂, ◌∙◌, arith, take_at, drop-drop, length-append, length-take-le}
use Rattle.std.proofs.Math.Seq.{take-add}
use Rattle.std.proofs.lemmas.Grind.{flat_map-append}
use Rattle.bit_plane.specs.BitList.{word_bits, word_of, byte_bits, byte_of, bits_of, bytes_of, placed}
use Rattle.bit_plane.proofs.Words.{word_bits-word_of}
use Rattle.bit_plane.proofs.Bytes.{bytes_of-take}

-- eight bytes more add their bits
pub bits_of-take_eight : (bytes : List ℕ) (i : ℕ) → bits_of (take (8 * (i + 1)) bytes) ≡ bits_of (take (8 * i) bytes) ++ bits_of (take 8 (drop (8 * i) bytes))
bits_of-take_eight bytes i =
    let e : 8 * (i + 1) ≡ 8 * i + 8 = omega arith in
    ap (λ n. bits_of (take n bytes)) e ∙ ap bits_of (take-add (8 * i) 8 bytes) ∙ flat_map-append byte_bits (take (8 * i) bytes) (take 8 (drop (8 * i) bytes))

-- the first bytes and those after them
pub bytes_of-add : (first more : ℕ) (bits : List Bool) → bytes_of (first + more) bits ≡ bytes_of first bits ++ bytes_of more (drop (8 * first) bits)
unfolding bytes_of
bytes_of-add zero more bits =
    let e : 0 + more ≡ more = omega arith in
    rw e refl
bytes_of-add (suc first) more bits =
    let e : suc first + more ≡ suc (first + more) = omega arith in
    let n : 8 + 8 * first ≡ 8 * suc first = omega arith in
    rw e (ap (λ bytes. byte_of (take 8 bits) ∷ bytes) (bytes_of-add first more (drop 8 bits) ∙ ap (λ rest. bytes_of first (drop 8 bits) ++ bytes_of more rest) (drop-drop (8 * first) 8 bits ∙ ap (λ n. drop n bits) n)))

-- the bytes of sixty-four bits, by way of their word
pub eight-of_word : (bits : List Bool) (word : ℕ) → 64 ≤ length bits → word ≡ word_of (take 64 bits) → bytes_of 8 (word_bits 64 word) ≡ bytes_of 8 bits
eight-of_word bits word long word_is =
    let whole : length (take 64 bits) ≡ 64 = length-take-le 64 bits long in
    let here : word_bits 64 word ≡ take 64 bits = ap₂ word_bits (sym whole) word_is ∙ word_bits-word_of (take 64 bits) in
    ap (bytes_of 8) here ∙ bytes_of-take 8 64 bits (omega arith)

-- what stands up to the end of a part that was placed
pub take-to_placed : {A : Type 0} (at n : ℕ) (part whole : List A) → at ≤ length whole → n ≡ at + length part → take n (placed at part whole) ≡ take at whole ++ part
take-to_placed at n part whole long past =
    take_at (take at whole ++ part) (drop (at + length part) whole) n (omega (arith, past, length-append (take at whole) part, length-take-le at whole long))
