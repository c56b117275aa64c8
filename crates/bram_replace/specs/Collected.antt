-- What is kept of words that were read. Only contracts within this crate cite this.
use Rattle.std.specs.Prelude.{◌≡◌, ℕ, ◌*◌, ◌/◌, ◌^◌, ◌<◌, ◌≤◌, Bool, false, List, [], ◌∷◌, length, flat_map, Option, Some, None}
use Rattle.std.specs.List.{list_any}
use Rattle.bit_plane.specs.Rows.{rows_of}
use Rattle.bram_replace.specs.HexText.{Contents, digits_in, digits_set, is_misfit, bits_in}

-- the number of digits that words have, if there is a word
abbrev pub digits_known : List (List ℕ) → Option ℕ
digits_known [] = None
digits_known (word ∷ words) = Some (length (digits_in word))

-- a number of digits that a word may have, if one is known
abbrev pub IsWidth : Option ℕ → Type 0
IsWidth None = Unit {0}
IsWidth (Some count) = (0 < count) × (count ≤ 64)

-- the words have this number of digits and these bits
pub record Holds (words : List (List ℕ)) (digits : Option ℕ) (bits : List Bool) : Type 0 where
  pub digits_are : digits ≡ digits_known words
  pub bits_are : bits ≡ flat_map bits_in words
  pub fit : list_any (is_misfit (digits_set words)) words ≡ false
  pub range : IsWidth digits

-- the words in a list of bits
abbrev pub memory_of : ℕ → List Bool → Contents
memory_of digits bits = record { digits = digits; words = rows_of (4 * digits) (length bits / (4 * digits)) bits }

-- not more digits than a word may have, and not more bits than a file can have
pub record IsMemory (digits : ℕ) (bits : List Bool) : Type 0 where
  pub some_digits : 0 < digits
  pub few_digits : digits ≤ 64
  pub few_bits : length bits ≤ 2 ^ 26
