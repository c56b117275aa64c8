-- Which bytes spell a token, and the longest token at the front of bytes (IEEE Std 1364-2005, 3.1 lexical tokens).
use Rattle.std.specs.Prelude.{◌≡◌, ◌≢◌, ◌≤◌, ◌<◌, ℕ, ◌+◌, ◌*◌, true, List, [], ◌∷◌, ◌++◌, codes, drop, fold, length, take, if◌then◌else◌}
use Rattle.std.specs.List.{list_all}
use Rattle.vlog_tokens.specs.declared.fixed.Fixed.{Fixed}
use Rattle.vlog_tokens.specs.Bytes.{byte_at, digit_value, hex_value, is_digit, is_hex_digit, is_letter, is_name_byte}
use Rattle.vlog_tokens.specs.Fixed.{fixed_text}
use Rattle.vlog_tokens.specs.Tokens.{TokenValue}
use Rattle.vlog_tokens.specs.Tokens.{TokenValue as token}

-- the number that digits spell, the most significant digit first
abbrev pub number_in : ℕ → (ℕ → ℕ) → List ℕ → ℕ
number_in base value digits = fold (λ number digit. base * number + value digit) 0 digits

-- a letter or an underscore, then letters, digits and underscores, and no reserved word
pub record IsNameText (text : List ℕ) : Type 0 where
  pub begins : is_letter (byte_at text 0) ≡ true
  pub goes_on : list_all is_name_byte text ≡ true
  pub free : (one : Fixed) → text ≢ fixed_text one

-- `16'h` and four hexadecimal digits
pub record IsWordText (text : List ℕ) (value : ℕ) : Type 0 where
  pub long : length text ≡ 8
  pub begins : take 4 text ≡ codes "16'h"
  pub digits : list_all is_hex_digit (drop 4 text) ≡ true
  pub is : number_in 16 hex_value (drop 4 text) ≡ value

-- one to three decimal digits
pub record IsNumberText (text : List ℕ) (value : ℕ) : Type 0 where
  pub some : 0 < length text
  pub short : length text ≤ 3
  pub digits : list_all is_digit text ≡ true
  pub is : number_in 10 digit_value text ≡ value

-- the text spells the token
abbrev pub IsSpelling : List ℕ → TokenValue → Type 0
IsSpelling text (token.fixed one) = text ≡ fixed_text one
IsSpelling text (token.name name) = (text ≡ name) × IsNameText text
IsSpelling text (token.bit value) = text ≡ codes "1'b" ++ (if value then 49 else 48) ∷ []
IsSpelling text (token.word value) = IsWordText text value
IsSpelling text (token.number value) = IsNumberText text value
IsSpelling text token.stray = ⊥

-- no token is spelled by more than this many bytes at the front
abbrev pub AreAtMost : List ℕ → ℕ → Type 0
AreAtMost bytes most = (count : ℕ) (other : TokenValue) → count ≤ length bytes → IsSpelling (take count bytes) other → count ≤ most

-- this many bytes at the front spell the token, and no more bytes there spell one; or no token begins there, and one byte is stray
abbrev pub IsLongest : List ℕ → TokenValue → ℕ → Type 0
IsLongest bytes token.stray count = (count ≡ 1) × AreAtMost bytes 0
IsLongest bytes token count = IsSpelling (take count bytes) token × AreAtMost bytes count
