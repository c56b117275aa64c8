-- Kinds of bytes, and the values of digits: the lexical conventions of IEEE Std 1364-2005 (3.2 white space, 3.5 numbers, 3.7 identifiers),
-- as far as the subset has them. There are no form feeds, no `$` in names, no `_` in numbers, and no other bases and widths.
use Rattle.std.specs.Prelude.{ℕ, ◌+◌, ◌-◌, ◌*◌, Bool, ◌&&◌, ◌||◌, not, List, get_or, nat_le, ◌==◌, if◌then◌else◌}
use Rattle.std.specs.Char.{is_ascii_alphabetic, is_ascii_digit}

-- white space: space, tab, CR and LF
abbrev pub is_blank : ℕ → Bool
is_blank byte = (byte == 32) || (byte == 9) || (byte == 13) || (byte == 10)

-- a letter or an underscore
abbrev pub is_letter : ℕ → Bool
is_letter byte = is_ascii_alphabetic byte || (byte == 95)

-- a decimal digit
abbrev pub is_digit : ℕ → Bool
is_digit byte = is_ascii_digit byte

-- a byte that a name may have after its first: a letter, an underscore or a digit
abbrev pub is_name_byte : ℕ → Bool
is_name_byte byte = is_letter byte || is_digit byte

-- a hexadecimal digit in either case
abbrev pub is_hex_digit : ℕ → Bool
is_hex_digit byte = is_digit byte || (nat_le 97 byte && nat_le byte 102) || (nat_le 65 byte && nat_le byte 70)

-- the value of a hexadecimal digit, and 0 of any other byte
abbrev pub hex_value : ℕ → ℕ
hex_value byte =
    if is_digit byte then byte - 48
    else if nat_le 97 byte && nat_le byte 102 then byte - 97 + 10
    else if nat_le 65 byte && nat_le byte 70 then byte - 65 + 10
    else 0

-- the value of a decimal digit, and 0 of any other byte
abbrev pub digit_value : ℕ → ℕ
digit_value byte = if is_digit byte then byte - 48 else 0

-- the byte at an index, and 0 past the end
abbrev pub byte_at : List ℕ → ℕ → ℕ
byte_at bytes place = get_or bytes place 0

-- the text begins with `1'b0` or `1'b1`
abbrev pub is_bit_text : List ℕ → Bool
is_bit_text bytes = (byte_at bytes 0 == 49) && (byte_at bytes 1 == 39) && (byte_at bytes 2 == 98)
    && ((byte_at bytes 3 == 48) || (byte_at bytes 3 == 49))

-- the text begins with `16'h` and four hexadecimal digits
abbrev pub is_word_text : List ℕ → Bool
is_word_text bytes = (byte_at bytes 0 == 49) && (byte_at bytes 1 == 54) && (byte_at bytes 2 == 39) && (byte_at bytes 3 == 104)
    && is_hex_digit (byte_at bytes 4) && is_hex_digit (byte_at bytes 5)
    && is_hex_digit (byte_at bytes 6) && is_hex_digit (byte_at bytes 7)

-- the value of the four digits after `16'h`
abbrev pub word_value : List ℕ → ℕ
word_value bytes = 256 * (16 * hex_value (byte_at bytes 4) + hex_value (byte_at bytes 5))
    + (16 * hex_value (byte_at bytes 6) + hex_value (byte_at bytes 7))

-- how many digits the number at the front has: the subset has numbers of one to three digits
abbrev pub number_length : List ℕ → ℕ
number_length bytes = if not (is_digit (byte_at bytes 1)) then 1 else if not (is_digit (byte_at bytes 2)) then 2 else 3

-- the value of the number at the front
abbrev pub number_value : List ℕ → ℕ
number_value bytes =
    let first = digit_value (byte_at bytes 0) in
    if not (is_digit (byte_at bytes 1)) then first
    else if not (is_digit (byte_at bytes 2)) then 10 * first + digit_value (byte_at bytes 1)
    else 10 * (10 * first + digit_value (byte_at bytes 1)) + digit_value (byte_at bytes 2)
