-- The two orders of bits: a number whose bits are reversed.
use Rattle.std.proofs.Common.{◌≡◌, ℕ, zero, suc, ◌+◌, ◌-◌, ◌*◌, ◌/◌, ◌%◌, ◌==◌, ◌^◌, ◌<◌, Bool, false, List, [], ◌∷◌, ◌++◌, length, get_or, ext_get_or, inl, inr, refl, sym, ap, ap₂, ◌∙◌, arith, append_assoc, append-nil, reverse, flat_map, w8, w64}
use Rattle.std.specs.Int.{reverse_bits, reverse_bits_onto, bit_at, from_le_bytes, from_be_bytes, to_le_bytes, to_be_bytes}
use Rattle.std.proofs.lemmas.Bool.{cases_lt}
use Rattle.std.proofs.lemmas.List.{reverse-reverse, reverse-append, length-reverse, get_or-reverse, get_or_past, flat_map_more}
use Rattle.std.proofs.lemmas.Nat.{from_le_bytes-to_le_bytes_8}
use Rattle.std.proofs.lemmas.Grind.{reverse_onto}
use Rattle.bit_plane.specs.BitList.{word_bits, word_of, byte_bits, byte_of, bits_of, bytes_of}
use Rattle.bit_plane.proofs.Words.{length-word_bits, get_or-word_bits, word_bits-word_of}
use Rattle.bit_plane.proofs.Parts.{word_bits-add, word_of-low}
use Rattle.bit_plane.proofs.Bytes.{byte_of-byte_bits, bytes_of-bits_of}

-- the low bits reversed, before the bits of another number
turned_onto : (count more n a : ℕ) → word_bits (count + more) (reverse_bits_onto count n a) ≡ reverse (word_bits count n) ++ word_bits more a
unfolding word_bits reverse_bits_onto
turned_onto zero more n a = let e : 0 + more ≡ more = omega arith in rw e refl
turned_onto (suc count) more n a =
    let e : suc count + more ≡ count + suc more = omega arith in
    let bit : (a * 2 + n % 2) % 2 ≡ n % 2 = omega arith in
    let half : (a * 2 + n % 2) / 2 ≡ a = omega arith in
    let front : List Bool = word_bits count (n / 2) in
    ap (λ k. word_bits k (reverse_bits_onto count (n / 2) (a * 2 + n % 2))) e ∙ turned_onto count (suc more) (n / 2) (a * 2 + n % 2) ∙ ap₂ (λ m h. reverse front ++ (m == 1) ∷ word_bits more h) bit half ∙ sym (append_assoc (reverse front) ((n % 2 == 1) ∷ []) (word_bits more a)) ∙ ap (λ bits. bits ++ word_bits more a) (sym (reverse_onto front (n % 2 == 1) []))

-- the bits of a number reversed
turned : (count n : ℕ) → word_bits count (reverse_bits_onto count n 0) ≡ reverse (word_bits count n)
unfolding word_bits
turned count n =
    let e : count ≡ count + 0 = omega arith in
    ap (λ k. word_bits k (reverse_bits_onto count n 0)) e ∙ turned_onto count 0 n 0 ∙ append-nil (reverse (word_bits count n))

-- the bits of a byte of the stream are a number's, reversed
reverse-byte : (b : ℕ) → reverse (word_bits 8 b) ≡ byte_bits b
unfolding word_bits
reverse-byte b =
    let two : b / 2 / 2 ≡ b / 4 = omega arith in
    let three : b / 4 / 2 ≡ b / 8 = omega arith in
    let four : b / 8 / 2 ≡ b / 16 = omega arith in
    let five : b / 16 / 2 ≡ b / 32 = omega arith in
    let six : b / 32 / 2 ≡ b / 64 = omega arith in
    let seven : b / 64 / 2 ≡ b / 128 = omega arith in
    rw (two, three, four, five, six, seven) refl

-- a byte reversed has the bits of the byte in the stream
pub turned-byte : (b : ℕ) → word_bits 8 (reverse_bits w8 b) ≡ byte_bits b
turned-byte b = turned 8 b ∙ reverse-byte b

-- a number of eight bits reversed is the byte of the bits
pub byte_of-turned : (bits : List Bool) (word : ℕ) → length bits ≡ 8 → word ≡ word_of bits → reverse_bits w8 word < 256 → reverse_bits w8 word ≡ byte_of bits
byte_of-turned bits word long word_is small =
    let here : word_bits 8 word ≡ bits = ap₂ word_bits (sym long) word_is ∙ word_bits-word_of bits in
    let byte : byte_bits (reverse_bits w8 word) ≡ bits = sym (reverse-byte (reverse_bits w8 word)) ∙ ap reverse (turned 8 word) ∙ reverse-reverse (word_bits 8 word) ∙ here in
    sym (byte_of-byte_bits (reverse_bits w8 word) small) ∙ ap byte_of byte

-- bits past the low ones don't count
word_bits-low : (count n : ℕ) → word_bits count (n % 2 ^ count) ≡ word_bits count n
word_bits-low count n =
    ap₂ word_bits (sym (length-word_bits count n)) (sym (word_of-low count n)) ∙ word_bits-word_of (word_bits count n)

-- the number of bytes, the lowest first
low_first : List ℕ → ℕ
low_first [] = 0
low_first (byte ∷ bytes) = byte + low_first bytes * 256

-- it has the bits of the bytes, each byte's lowest bit first
low_first-bits : (bytes : List ℕ) → ((i : ℕ) → get_or bytes i 0 < 256) → word_bits (8 * length bytes) (low_first bytes) ≡ flat_map (word_bits 8) bytes
unfolding word_bits low_first
low_first-bits [] small = refl
low_first-bits (byte ∷ bytes) small =
    let first : byte < 256 = small 0 in
    let whole : 8 * length (byte ∷ bytes) ≡ 8 + 8 * length bytes = omega arith in
    let number : ℕ = byte + low_first bytes * 256 in
    let above : number / 2 ^ 8 ≡ low_first bytes = omega arith in
    let below : number % 2 ^ 8 ≡ byte = omega arith in
    let low : word_bits 8 number ≡ word_bits 8 byte = sym (word_bits-low 8 number) ∙ ap (word_bits 8) below in
    ap (λ k. word_bits k number) whole ∙ word_bits-add 8 (8 * length bytes) number ∙ ap₂ (λ (front back : List Bool). front ++ back) low (ap (word_bits (8 * length bytes)) above ∙ low_first-bits bytes (λ i. small (suc i)))

-- small numbers are so in the other order
reverse-small : (bytes : List ℕ) → ((i : ℕ) → get_or bytes i 0 < 256) → (i : ℕ) → get_or (reverse bytes) i 0 < 256
reverse-small bytes small i = elim (cases_lt i (length bytes)) [
  | inl within ↦ rw (get_or-reverse bytes i 0 within) (small (length bytes - 1 - i))
  | inr past ↦ rw (get_or_past (reverse bytes) i 0 (omega (arith, past, length-reverse bytes))) (omega arith)
]

-- the number of eight bytes, the first the lowest
from_le_bytes-is : (bytes : List ℕ) → length bytes ≡ 8 → from_le_bytes w64 bytes ≡ low_first bytes
unfolding low_first
from_le_bytes-is (a ∷ b ∷ c ∷ d ∷ e ∷ f ∷ g ∷ h ∷ []) eight = omega arith
from_le_bytes-is _ eight = absurd (omega (arith, eight))

-- bytes whose last comes first have the bits of the number, reversed
bits_of-reverse : (bytes : List ℕ) → bits_of (reverse bytes) ≡ reverse (flat_map (word_bits 8) bytes)
bits_of-reverse [] = refl
bits_of-reverse (byte ∷ bytes) =
    ap bits_of (reverse-append (byte ∷ []) bytes) ∙ sym (flat_map_more byte_bits [] (reverse bytes) byte) ∙ ap₂ (λ (front back : List Bool). front ++ back) (bits_of-reverse bytes) (sym (reverse-byte byte)) ∙ sym (reverse-append (word_bits 8 byte) (flat_map (word_bits 8) bytes))

-- the bits of a word reversed
reversed-bits : (word reversed : ℕ) → ((k : ℕ) → k < 64 → bit_at reversed k ≡ bit_at word (63 - k)) → word_bits 64 reversed ≡ reverse (word_bits 64 word)
reversed-bits word reversed bits =
    let long : length (word_bits 64 word) ≡ 64 = length-word_bits 64 word in
    ext_get_or false (word_bits 64 reversed) (reverse (word_bits 64 word)) (length-word_bits 64 reversed ∙ sym (length-reverse (word_bits 64 word) ∙ long)) (λ k inside.
    let within : k < 64 = omega (arith, length-word_bits 64 reversed) in
    let place : length (word_bits 64 word) - 1 - k ≡ 63 - k = omega (arith, long) in
    get_or-word_bits 64 reversed k within ∙ ap (λ m. m == 1) (bits k within) ∙ sym (get_or-reverse (word_bits 64 word) k false (omega (arith, long)) ∙ ap (λ n. get_or (word_bits 64 word) n false) place ∙ get_or-word_bits 64 word (63 - k) (omega arith)))

-- the number of eight bytes, the first the highest
from_be_bytes-is : (bytes : List ℕ) → length bytes ≡ 8 → from_be_bytes w64 bytes ≡ low_first (reverse bytes)
unfolding low_first
from_be_bytes-is (a ∷ b ∷ c ∷ d ∷ e ∷ f ∷ g ∷ h ∷ []) eight = omega arith
from_be_bytes-is _ eight = absurd (omega (arith, eight))

-- the number of eight bytes reversed has their bits
pub reversed-number : (bytes : List ℕ) (reversed : ℕ) → length bytes ≡ 8 → ((i : ℕ) → get_or bytes i 0 < 256) → ((k : ℕ) → k < 64 → bit_at reversed k ≡ bit_at (from_be_bytes w64 bytes) (63 - k)) → word_bits 64 reversed ≡ bits_of bytes
reversed-number bytes reversed eight small bits =
    let back : List ℕ = reverse bytes in
    let long : length back ≡ 8 = length-reverse bytes ∙ eight in
    let whole : 64 ≡ 8 * length back = omega (arith, long) in
    let number : word_bits 64 (from_be_bytes w64 bytes) ≡ flat_map (word_bits 8) back = ap₂ word_bits whole (from_be_bytes-is bytes eight) ∙ low_first-bits back (reverse-small bytes small) in
    reversed-bits (from_be_bytes w64 bytes) reversed bits ∙ ap reverse number ∙ sym (bits_of-reverse back) ∙ ap bits_of (reverse-reverse bytes)

-- the bytes of a number are bytes
bytes-small : (n i : ℕ) → get_or (to_le_bytes w64 n) i 0 < 256
bytes-small n zero = omega arith
bytes-small n (suc zero) = omega arith
bytes-small n (suc (suc zero)) = omega arith
bytes-small n (suc (suc (suc zero))) = omega arith
bytes-small n (suc (suc (suc (suc zero)))) = omega arith
bytes-small n (suc (suc (suc (suc (suc zero))))) = omega arith
bytes-small n (suc (suc (suc (suc (suc (suc zero)))))) = omega arith
bytes-small n (suc (suc (suc (suc (suc (suc (suc zero))))))) = omega arith
bytes-small n (suc (suc (suc (suc (suc (suc (suc (suc i)))))))) = omega arith

-- the bytes of a number reversed are those of its bits
pub reversed-bytes : (word reversed : ℕ) → ((k : ℕ) → k < 64 → bit_at reversed k ≡ bit_at word (63 - k)) → reversed < 2 ^ 64 → to_be_bytes w64 reversed ≡ bytes_of 8 (word_bits 64 word)
reversed-bytes word reversed bits fits =
    let bytes : List ℕ = to_le_bytes w64 reversed in
    let number : low_first bytes ≡ reversed = sym (from_le_bytes-is bytes refl) ∙ from_le_bytes-to_le_bytes_8 reversed fits in
    let turn : bits_of (reverse bytes) ≡ word_bits 64 word = bits_of-reverse bytes ∙ ap reverse (sym (low_first-bits bytes (bytes-small reversed)) ∙ ap (word_bits 64) number ∙ reversed-bits word reversed bits) ∙ reverse-reverse (word_bits 64 word) in
    sym (bytes_of-bits_of (reverse bytes) (reverse-small bytes (bytes-small reversed))) ∙ ap (bytes_of 8) turn
