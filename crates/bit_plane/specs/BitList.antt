-- Bits as lists of Booleans, and the two orders in which numbers hold them: a row's word has its first bit as the
-- bit of value 1, a byte of the bitstream has its first bit as the bit of value 128. The order in a byte is that of Project IceStorm,
-- 'Bitstream File Format Documentation'.
use Rattle.std.specs.Prelude.{ℕ, zero, suc, ◌+◌, ◌*◌, ◌/◌, ◌%◌, Bool, true, false, List, [], ◌∷◌, ◌++◌, length, take, drop, fold, flat_map, ◌==◌}
use Rattle.std.specs.Int.RustNames.{bit_or}

-- a bit as a number
abbrev pub bit_value : Bool → ℕ
bit_value false = 0
bit_value true = 1

-- the `count` low bits of a number, the lowest first
unfoldable pub word_bits : ℕ → ℕ → List Bool
word_bits zero n = []
word_bits (suc count) n = (n % 2 == 1) ∷ word_bits count (n / 2)

-- the number that has these bits, the lowest first
unfoldable pub word_of : List Bool → ℕ
word_of [] = 0
word_of (bit ∷ bits) = bit_value bit + 2 * word_of bits

-- the eight bits of a byte, the highest first
abbrev pub byte_bits : ℕ → List Bool
byte_bits b =
    (b / 128 % 2 == 1) ∷ (b / 64 % 2 == 1) ∷ (b / 32 % 2 == 1) ∷ (b / 16 % 2 == 1)
    ∷ (b / 8 % 2 == 1) ∷ (b / 4 % 2 == 1) ∷ (b / 2 % 2 == 1) ∷ (b % 2 == 1) ∷ []

-- the number that has these bits, the highest first
abbrev pub byte_of : List Bool → ℕ
byte_of bits = fold (λ n bit. 2 * n + bit_value bit) 0 bits

-- the bits of bytes, one byte after the other
abbrev pub bits_of : List ℕ → List Bool
bits_of bytes = flat_map byte_bits bytes

-- `count` bytes, eight bits each, from the front of the bits
unfoldable pub bytes_of : ℕ → List Bool → List ℕ
bytes_of zero bits = []
bytes_of (suc count) bits = byte_of (take 8 bits) ∷ bytes_of count (drop 8 bits)

-- the list with `part` written over it from `at` on
abbrev pub placed : {A : Type 0} → ℕ → List A → List A → List A
placed at part whole = take at whole ++ part ++ drop (at + length part) whole

-- the list with the low `count` bits of a number ORed into it from `at` on, the lowest first
abbrev pub gained : ℕ → ℕ → ℕ → List Bool → List Bool
gained at count ones whole = placed at (word_bits count (bit_or (word_of (take count (drop at whole))) ones)) whole
