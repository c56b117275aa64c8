-- Read modes of RAMs: the `READ_MODE` of `SB_RAM40_4K`. In mode m a RAM holds a memory of 256 * 2^m words of 16 / 2^m bits, and each of
-- its 256 words of 16 bits has the bits of 2^m words of the memory. The bits that set the mode are those of Project IceStorm, 'RAM Tile';
-- the order of the bits in the words is the one of Project IceStorm's `icebram`.
use Rattle.std.specs.Prelude.{◌≡◌, ℕ, zero, suc, ◌+◌, ◌*◌, ◌/◌, ◌%◌, ◌^◌, ◌<◌, Bool, List, Option, Some, None}
use Rattle.bit_plane.specs.BitList.{bit_value}
use Rattle.asc_text.specs.declared.fault.TileXy.{TileXy}
use Rattle.asc_text.specs.Characters.{character_of}
use Rattle.bram_replace.specs.declared.modes.ReadModes.{ReadModes}
use Rattle.bram_replace.specs.declared.modes.ReadModes.TheVariants.{Ignored, Followed}

-- ---- the mode of a RAM

-- a mode for each RAM, by its column and its row of the grid
abbrev pub Modes : Type 0
Modes = ℕ → ℕ → ℕ

-- mode 0 for every RAM
abbrev pub no_modes : Modes
no_modes x y = 0

-- a bit of the tile above a RAM, in column 7, or 0 if the text has no such tile
abbrev pub mode_bit : List (List ℕ) → ℕ → ℕ → ℕ → ℕ
mode_bit lines x y row = bit_value (character_of lines (record { x = x; y = y + 1; row = row; col = 7 }))

-- the read mode of a RAM: RamConfig.CBIT_2, and twice RamConfig.CBIT_3
abbrev pub read_mode : List (List ℕ) → Modes
read_mode lines x y = mode_bit lines x y 3 + 2 * mode_bit lines x y 2

-- the modes of the RAMs of a text
abbrev pub modes_in : ReadModes → List (List ℕ) → Modes
modes_in Ignored lines = no_modes
modes_in Followed lines = read_mode lines

-- the mode of the RAM that is named
abbrev pub mode_for : Modes → Option TileXy → ℕ
mode_for modes None = 0
mode_for modes (Some ram) = modes ram.x ram.y

-- ---- where the memory lies in the RAM

-- a bit for each word and each place in the word
abbrev pub RamBits : Type 0
RamBits = ℕ → ℕ → Bool

-- the low `count` bits of a number, in reverse order
abbrev pub reversed : ℕ → ℕ → ℕ
reversed zero number = 0
reversed (suc count) number = 2 ^ count * (number % 2) + reversed count (number / 2)

-- the word of the memory to which a bit of a word of the RAM belongs; it is bit number bit / 2^m of that word
abbrev pub address_of : ℕ → ℕ → ℕ → ℕ
address_of mode word bit = 2 ^ mode * word + reversed mode (bit % 2 ^ mode)

-- the inverse: the bits of the memory, from the bits of the RAM
abbrev pub memory_of : ℕ → RamBits → RamBits
memory_of mode bits address bit = bits (address / 2 ^ mode) (2 ^ mode * bit + reversed mode (address % 2 ^ mode))

-- ---- columns of the memory, which are counted like the columns of a file

-- how many bits a word of the memory has
abbrev pub mode_width : ℕ → ℕ
mode_width mode = 16 / 2 ^ mode

-- a bit of a column: column s * width + b has bit b of the words from 256 * s on
abbrev pub by_columns : ℕ → RamBits → RamBits
by_columns mode bits place column = memory_of mode bits (256 * (column / mode_width mode) + place) (column % mode_width mode)

-- the column to which a bit of a word of the RAM belongs
abbrev pub column_in : ℕ → ℕ → ℕ → ℕ
column_in mode word bit = address_of mode word bit / 256 * mode_width mode + bit / 2 ^ mode

-- and its place in that column
abbrev pub place_in : ℕ → ℕ → ℕ → ℕ
place_in mode word bit = address_of mode word bit % 256

-- the bits of words from those of columns
abbrev pub from_columns : ℕ → RamBits → RamBits
from_columns mode columns word bit = columns (place_in mode word bit) (column_in mode word bit)

-- in a mode the columns of a RAM have each of its bits once: words to columns and back gives the words, and columns to words and back the
-- columns
pub record ColumnsAreWords (mode : ℕ) : Type 0 where
  pub words : (bits : RamBits) (word bit : ℕ) → word < 256 → bit < 16 → from_columns mode (by_columns mode bits) word bit ≡ bits word bit
  pub columns : (bits : RamBits) (place column : ℕ) → place < 256 → column < 16 → by_columns mode (from_columns mode bits) place column ≡ bits place column
