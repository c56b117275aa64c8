-- What holds while the reader sets the bits of a line of a RAM's contents, one word after the other.
use Rattle.std.specs.Prelude.{ℕ, ◌+◌, ◌*◌, ◌/◌, ◌%◌, ◌-◌, Bool, false, ◌&&◌, List, get_or, nat_lt, ◌==◌}
use Rattle.ice_image.specs.Bits.{Bit, OfWord, number_bit}

-- a word of a line of sixteen words of two bytes: the first word is the last in the line, and the high byte of each word is first
abbrev pub word_in : List ℕ → ℕ → ℕ
word_in bytes index = 256 * get_or bytes (30 - 2 * index) 0 + get_or bytes (31 - 2 * index) 0

-- whether sixteen words of a RAM are 1 at a bit
abbrev pub bytes_set : ℕ → ℕ → ℕ → List ℕ → Bit → Bool
bytes_set x y row bytes (OfWord bit) = (x == bit.x) && (y == bit.y) && (row == bit.word / 16) && number_bit (word_in bytes (bit.word % 16)) bit.bit
bytes_set x y row bytes bit = false

-- whether the first `count` of sixteen words of a RAM are 1 at a bit
abbrev pub bytes_set_below : ℕ → ℕ → ℕ → List ℕ → ℕ → Bit → Bool
bytes_set_below x y row bytes count (OfWord bit) =
    (x == bit.x) && (y == bit.y) && (row == bit.word / 16) && nat_lt (bit.word % 16) count && number_bit (word_in bytes (bit.word % 16)) bit.bit
bytes_set_below x y row bytes count bit = false
