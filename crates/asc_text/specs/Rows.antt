-- The lines that follow the statement of a tile, or of the contents of a RAM (Project IceStorm, 'iCE40 ASCII format').
use Rattle.std.specs.Prelude.{ℕ, ◌+◌, ◌-◌, ◌*◌, ◌/◌, ◌%◌, ◌^◌, Bool, ◌&&◌, ◌||◌, List, [], length, get_or, ◌==◌, Result, Ok, Err}
use Rattle.std.specs.List.{list_all}
use Rattle.hex.specs.Hex.{decode_of, is_hex_digit}
use Rattle.hex.specs.declared.error.FromHexError.{FromHexError}

-- a row of a tile: `width` characters 0 and 1
unfoldable pub is_row : ℕ → List ℕ → Bool
is_row width line = (length line == width) && list_all (λ byte. (byte == 48) || (byte == 49)) line

-- whether the character of a column is 1
abbrev pub row_bit : List ℕ → ℕ → Bool
row_bit line col = get_or line col 0 == 49

-- 64 hexadecimal digits in either case
unfoldable pub is_memory_line : List ℕ → Bool
is_memory_line line = (length line == 64) && list_all is_hex_digit line

abbrev pub decoded : Result (List ℕ) FromHexError → List ℕ
decoded (Ok bytes) = bytes
decoded (Err e) = []

-- the bytes of hexadecimal digits, two digits a byte
unfoldable pub ram_line_bytes : List ℕ → List ℕ
ram_line_bytes line = decoded (decode_of line)

-- a word of a line of sixteen words of two bytes: the first word is the one at the right, and its high byte is the left one
abbrev pub memory_word : List ℕ → ℕ → ℕ
memory_word line index = 256 * get_or (ram_line_bytes line) (30 - 2 * index) 0 + get_or (ram_line_bytes line) (31 - 2 * index) 0

-- a bit of a word of a line, bit b being worth 2 ^ b
abbrev pub memory_bit : List ℕ → ℕ → ℕ → Bool
memory_bit line index bit = memory_word line index / 2 ^ bit % 2 == 1
