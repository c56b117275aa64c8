-- The bits of a RAM in one list. Only contracts within this crate cite this.
use Rattle.std.specs.Prelude.{◌≡◌, ℕ, ◌+◌, ◌*◌, ◌/◌, ◌%◌, ◌^◌, ◌<◌, Bool, false, List, get_or}
use Rattle.bram_replace.specs.HexText.{Contents}
use Rattle.bram_replace.specs.Columns.{match_of}
use Rattle.bram_replace.specs.ReadModes.{RamBits, mode_width, reversed}
use Rattle.bram_replace.specs.Replaced.{bit_from, ram_column}

-- the bits in a list that has one word after the other
abbrev pub listed : List Bool → RamBits
listed bits word bit = get_or bits (16 * word + bit) false

-- the bits of the first `words` words are equal
abbrev pub AreAlike : ℕ → RamBits → RamBits → Type 0
AreAlike words bits others = (word bit : ℕ) → word < words → bit < 16 → bits word bit ≡ others word bit

-- the bits of columns afterwards
abbrev pub columns_after : Contents → Contents → RamBits → RamBits
columns_after from to before place column = bit_from to (match_of from (ram_column before column)) place (before place column)

-- the index at which a list that has one word after the other keeps the bit of a column at a place
abbrev pub kept_at : ℕ → ℕ → ℕ → ℕ
kept_at mode place column =
    let address = 256 * (column / mode_width mode) + place in
    16 * (address / 2 ^ mode) + (2 ^ mode * (column % mode_width mode) + reversed mode (address % 2 ^ mode))
