-- Numbers at the front of a text.
use Rattle.std.specs.Prelude.{◌≡◌, ℕ, ◌≤◌, ◌<◌, ◌^◌, true, false, List, ◌∷◌, ◌++◌, length, take, get_or, Some}
use Rattle.std.specs.List.{list_all}
use Rattle.std.specs.Char.{is_ascii_digit}
use Rattle.text_lines.specs.Words.{digits_value, number_of}

-- a number at the front of a text, the byte `end` right after its digits, and what follows that byte
pub record StartsWithNumber (end : ℕ) (text : List ℕ) (number : ℕ) (rest : List ℕ) : Type 0 where
  pub digits : List ℕ
  pub number_is : number_of digits ≡ Some number
  pub text_is : text ≡ digits ++ (end ∷ rest)

-- the first `digits` bytes of a text are digits, and write that number
pub record HasDigits (text : List ℕ) (digits number : ℕ) : Type 0 where
  pub within : digits ≤ length text
  pub few : digits ≤ 9
  pub all : list_all is_ascii_digit (take digits text) ≡ true
  pub number_is : number ≡ digits_value (take digits text)
  pub small : number < 10 ^ digits

-- these are all digits at the front, up to the ninth
pub record Leads (text : List ℕ) (digits number : ℕ) : Type 0 where
  pub has : HasDigits text digits number
  pub ends : digits < length text → digits < 9 → is_ascii_digit (get_or text digits 0) ≡ false
