-- What holds while a row of a tile is read, eight characters at a time.
use Rattle.std.specs.Prelude.{◌≡◌, ℕ, ◌+◌, ◌*◌, ◌%◌, ◌<◌, Bool, ◌||◌, List, [], ◌∷◌, length, ◌==◌}
use Rattle.std.specs.List.{All}

-- whether a byte is the character 0 or 1
abbrev pub is_bit : ℕ → Bool
is_bit byte = (byte == 48) || (byte == 49)

-- whether the lowest bit of a byte is 1, as it is of the character 1 and not of the character 0
abbrev pub is_odd : ℕ → Bool
is_odd byte = byte % 2 == 1

-- bytes as a number, the first the least significant
abbrev pub bytes_number : List ℕ → ℕ
bytes_number [] = 0
bytes_number (byte ∷ bytes) = byte + 256 * bytes_number bytes

-- eight bytes
pub record AreEight (bytes : List ℕ) : Type 0 where
  pub count : length bytes ≡ 8
  pub small : All (λ byte. byte < 256) bytes
