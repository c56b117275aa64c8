-- Bytes and the bits that they are.
use Rattle.std.proofs.Common.{◌≡◌, ℕ, zero, suc, ◌+◌, ◌-◌, ◌*◌, ◌/◌, ◌%◌, ◌<◌, ◌≤◌, Bool, List, [], ◌∷◌, ◌++◌, length, get_or, take, drop, refl, sym, ap, ap₂, ◌∙◌, arith, length-append, length-take-le, length-drop, drop-drop, take-take, take-append-drop, add-one}
use Rattle.std.proofs.lemmas.List.{nil_from_length, drop-take, take_more, flat_map_more}
use Rattle.bit_plane.specs.BitList.{bit_value, byte_bits, byte_of, bits_of, bytes_of}
use Rattle.bit_plane.proofs.Words.{bit_value-le, bit_value-test, test-bit_value}

-- eight bits a byte
pub length-bits_of : (bytes : List ℕ) → length (bits_of bytes) ≡ 8 * length bytes
length-bits_of [] = refl
length-bits_of (byte ∷ bytes) =
    omega (arith, length-append (byte_bits byte) (bits_of bytes), length-bits_of bytes)

-- one byte more adds its bits
pub bits_of-take : (bytes : List ℕ) (i : ℕ) → i < length bytes → bits_of (take (i + 1) bytes) ≡ bits_of (take i bytes) ++ byte_bits (get_or bytes i 0)
bits_of-take bytes i within =
    ap bits_of (take_more bytes i 0 within) ∙ sym (flat_map_more byte_bits [] (take i bytes) (get_or bytes i 0))

-- one byte more is that of the next eight bits
pub bytes_of-more : (i : ℕ) (bits : List Bool) → bytes_of (i + 1) bits ≡ bytes_of i bits ++ byte_of (take 8 (drop (8 * i) bits)) ∷ []
unfolding bytes_of
bytes_of-more zero bits = let e : 8 * 0 ≡ 0 = refl in rw e refl
bytes_of-more (suc i) bits =
    let next = bytes_of-more i (drop 8 bits) in
    let e : drop (8 * i) (drop 8 bits) ≡ drop (8 * suc i) bits = let n : 8 + 8 * i ≡ 8 * suc i = omega arith in drop-drop (8 * i) 8 bits ∙ ap (λ n. drop n bits) n in
    rw add-one (ap (λ bytes. byte_of (take 8 bits) ∷ bytes) (rw add-one at next ∙ ap (λ rest. bytes_of i (drop 8 bits) ++ byte_of (take 8 rest) ∷ []) e))

-- bits past the last byte don't count
pub bytes_of-take : (count n : ℕ) (bits : List Bool) → 8 * count ≤ n → bytes_of count (take n bits) ≡ bytes_of count bits
unfolding bytes_of
bytes_of-take zero n bits within = refl
bytes_of-take (suc count) n bits within =
    let parts : n ≡ 8 + (n - 8) = omega arith in
    let first : take 8 (take n bits) ≡ take 8 bits = take-take 8 n bits (omega arith) in
    let rest : drop 8 (take n bits) ≡ take (n - 8) (drop 8 bits) = ap (λ n. drop 8 (take n bits)) parts ∙ drop-take 8 (n - 8) bits in
    rw (first, rest) (ap (λ bytes. byte_of (take 8 bits) ∷ bytes) (bytes_of-take count (n - 8) (drop 8 bits) (omega arith)))

-- the number of bytes that was asked for
pub length-bytes_of : (count : ℕ) (bits : List Bool) → length (bytes_of count bits) ≡ count
unfolding bytes_of
length-bytes_of zero bits = refl
length-bytes_of (suc count) bits = ap suc (length-bytes_of count (drop 8 bits))

-- a byte is that of its bits
pub byte_of-byte_bits : (b : ℕ) → b < 256 → byte_of (byte_bits b) ≡ b
byte_of-byte_bits b small =
    rw (bit_value-test (b / 128 % 2) (omega arith), bit_value-test (b / 64 % 2) (omega arith), bit_value-test (b / 32 % 2) (omega arith), bit_value-test (b / 16 % 2) (omega arith), bit_value-test (b / 8 % 2) (omega arith), bit_value-test (b / 4 % 2) (omega arith), bit_value-test (b / 2 % 2) (omega arith), bit_value-test (b % 2) (omega arith)) (omega arith)

-- the bits of a byte of bits
pub byte_bits-byte_of : (bits : List Bool) → length bits ≡ 8 → byte_bits (byte_of bits) ≡ bits
byte_bits-byte_of (a ∷ b ∷ c ∷ d ∷ e ∷ f ∷ g ∷ h ∷ []) eight =
    let n : ℕ = byte_of (a ∷ b ∷ c ∷ d ∷ e ∷ f ∷ g ∷ h ∷ []) in
    let lows : (bit_value a ≤ 1) × (bit_value b ≤ 1) × (bit_value c ≤ 1) × (bit_value d ≤ 1) × (bit_value e ≤ 1) × (bit_value f ≤ 1) × (bit_value g ≤ 1) × (bit_value h ≤ 1) = (bit_value-le a, bit_value-le b, bit_value-le c, bit_value-le d, bit_value-le e, bit_value-le f, bit_value-le g, bit_value-le h) in
    let ea : n / 128 % 2 ≡ bit_value a = omega arith in
    let eb : n / 64 % 2 ≡ bit_value b = omega arith in
    let ec : n / 32 % 2 ≡ bit_value c = omega arith in
    let ed : n / 16 % 2 ≡ bit_value d = omega arith in
    let ee : n / 8 % 2 ≡ bit_value e = omega arith in
    let ef : n / 4 % 2 ≡ bit_value f = omega arith in
    let eg : n / 2 % 2 ≡ bit_value g = omega arith in
    let eh : n % 2 ≡ bit_value h = omega arith in
    rw (ea, eb, ec, ed, ee, ef, eg, eh, test-bit_value a, test-bit_value b, test-bit_value c, test-bit_value d, test-bit_value e, test-bit_value f, test-bit_value g, test-bit_value h) refl
byte_bits-byte_of _ eight = absurd (omega (arith, eight))

-- the bytes of bits of bytes
pub bytes_of-bits_of : (bytes : List ℕ) → ((i : ℕ) → get_or bytes i 0 < 256) → bytes_of (length bytes) (bits_of bytes) ≡ bytes
unfolding bytes_of
bytes_of-bits_of [] small = refl
bytes_of-bits_of (b ∷ bytes) small =
    ap₂ (λ first rest. first ∷ rest) (byte_of-byte_bits b (small 0)) (bytes_of-bits_of bytes (λ i. small (suc i)))

-- the bits of bytes of bits
pub bits_of-bytes_of : (count : ℕ) (bits : List Bool) → length bits ≡ 8 * count → bits_of (bytes_of count bits) ≡ bits
unfolding bytes_of
bits_of-bytes_of zero bits exact = sym (nil_from_length bits exact)
bits_of-bytes_of (suc count) bits exact =
    let front = byte_bits-byte_of (take 8 bits) (length-take-le 8 bits (omega arith)) in
    let rest = bits_of-bytes_of count (drop 8 bits) (omega (arith, length-drop 8 bits)) in
    ap₂ (λ (front back : List Bool). front ++ back) front rest ∙ take-append-drop 8 bits
