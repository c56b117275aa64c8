-- The tokens of a text, each with its value and its offset (IEEE Std 1364-2005, 3.1 lexical tokens).
use Rattle.std.specs.Prelude.{ℕ, zero, suc, ◌+◌, ◌-◌, Bool, not, List, [], ◌∷◌, take, drop, ◌==◌, if◌then◌else◌, Option, Some, None}
use Rattle.std.specs.List.{position_or_len}
use Rattle.vlog_tokens.specs.Bytes.{is_blank, is_letter, is_digit, is_name_byte, byte_at, is_bit_text, is_word_text, word_value, number_length, number_value}
use Rattle.vlog_tokens.specs.Fixed.{word_of, pair_of, sign_of}
use Rattle.vlog_tokens.specs.declared.fixed.Fixed.{Fixed}
use Rattle.vlog_tokens.specs.declared.token.Token.{Token}
use Rattle.vlog_tokens.specs.declared.token.Token.TheVariants as read

-- the value of a token: what its spelling stands for
pub data TokenValue : Type 0 where
  fixed : Fixed → TokenValue
  name : List ℕ → TokenValue
  bit : Bool → TokenValue
  word : ℕ → TokenValue
  number : ℕ → TokenValue
  -- a byte at which no token begins
  stray : TokenValue

-- the value of a token of the code
abbrev pub seen : Token → TokenValue
seen (read.Fixed sign) = fixed sign
seen (read.Name text) = name text.now
seen (read.Bit value) = bit value
seen (read.Word value) = word value
seen (read.Number value) = number value
seen read.Stray = stray

-- a token and the offset of its first byte
pub record Spot : Type 0 where
  pub offset : ℕ
  pub token : TokenValue

abbrev pub spot : ℕ → TokenValue → Spot
spot offset token = record { offset = offset; token = token }

-- the reserved word if there is one, else the name
abbrev pub word_or_name : Option Fixed → List ℕ → TokenValue
word_or_name (Some reserved) text = fixed reserved
word_or_name None text = name text

-- the token that letters, digits and underscores make: a reserved word or a name
unfoldable pub name_or_word : List ℕ → TokenValue
name_or_word text = word_or_name (word_of text) text

-- how many bytes at the front belong to a name
abbrev pub name_length : List ℕ → ℕ
name_length bytes = position_or_len (λ byte. not (is_name_byte byte)) bytes

-- the token at the front, if the first byte is a digit, and its length
unfoldable pub digits_token : List ℕ → TokenValue
digits_token bytes =
    if is_bit_text bytes then bit (byte_at bytes 3 == 49)
    else if is_word_text bytes then word (word_value bytes)
    else number (number_value bytes)

unfoldable pub digits_length : List ℕ → ℕ
digits_length bytes = if is_bit_text bytes then 4 else if is_word_text bytes then 8 else number_length bytes

-- a sign of two bytes if there is one, else a sign of one byte, else a stray byte
abbrev pub first_sign : Option Fixed → Option Fixed → TokenValue
first_sign (Some pair) single = fixed pair
first_sign None (Some single) = fixed single
first_sign None None = stray

abbrev pub first_length : Option Fixed → ℕ
first_length (Some pair) = 2
first_length None = 1

-- the token at the front, if the first byte is neither a letter nor a digit, and its length
unfoldable pub sign_token : List ℕ → TokenValue
sign_token bytes = first_sign (pair_of (byte_at bytes 0) (byte_at bytes 1)) (sign_of (byte_at bytes 0))

unfoldable pub sign_length : List ℕ → ℕ
sign_length bytes = first_length (pair_of (byte_at bytes 0) (byte_at bytes 1))

-- the longest token at the front, if the first byte isn't white space, and its length
unfoldable pub front_token : List ℕ → TokenValue
front_token bytes =
    if is_letter (byte_at bytes 0) then name_or_word (take (name_length bytes) bytes)
    else if is_digit (byte_at bytes 0) then digits_token bytes
    else sign_token bytes

unfoldable pub front_length : List ℕ → ℕ
front_length bytes =
    if is_letter (byte_at bytes 0) then name_length bytes
    else if is_digit (byte_at bytes 0) then digits_length bytes
    else sign_length bytes

-- the tokens of bytes whose first byte has this offset; the first `covered` bytes belong to an earlier token
unfoldable pub spots_from : ℕ → ℕ → List ℕ → List Spot
spots_from offset covered [] = []
spots_from offset (suc covered) (byte ∷ bytes) = spots_from (offset + 1) covered bytes
spots_from offset zero (byte ∷ bytes) =
    if is_blank byte then spots_from (offset + 1) zero bytes
    else spot offset (front_token (byte ∷ bytes)) ∷ spots_from (offset + 1) (front_length (byte ∷ bytes) - 1) bytes

-- the tokens of a text
abbrev pub spots_of : List ℕ → List Spot
spots_of bytes = spots_from 0 0 bytes

-- the tokens of a text from an offset on
abbrev pub spots_at : List ℕ → ℕ → List Spot
spots_at bytes from = spots_from from 0 (drop from bytes)
