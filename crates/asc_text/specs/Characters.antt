-- What a text says of each bit, in the words of Project IceStorm, 'iCE40 ASCII format': the character or the digit that stands for the bit
-- below the statement that names its tile or its RAM, or the statement of the extra bit.
use Rattle.std.specs.Prelude.{◌≡◌, ℕ, ◌+◌, ◌/◌, ◌%◌, Bool, false, List, length, Option, Some, None}
use Rattle.text_lines.specs.Lines.{lines_of, line_at, trimmed}
use Rattle.index_search.specs.Places.{any_below, least_below}
use Rattle.plane_map.specs.declared.tile.Place.{Place}
use Rattle.plane_map.specs.declared.tile.TileBit.{TileBit}
use Rattle.plane_map.specs.declared.tile.WordBit.{WordBit}
use Rattle.ice_image.specs.Bits.{Bit, OfTile, OfWord, Extra, IsBit, bit_of}
use Rattle.ice_image.specs.Configuration.{Configuration}
use Rattle.asc_text.specs.declared.statement.Statement.{Statement}
use Rattle.asc_text.specs.declared.statement.Statement.TheVariants.{ExtraBit}
use Rattle.asc_text.specs.Rows.{row_bit, memory_bit}
use Rattle.asc_text.specs.Blocks.{statement_at}
use Rattle.ice_image.specs.Owned.{is_same_place}
use Rattle.asc_text.specs.Faults.{names_tile, names_ram, extra_place}

-- ---- tiles

-- the index of the statement that begins the rows of that tile
unfoldable pub tile_statement : List (List ℕ) → ℕ → ℕ → Option ℕ
tile_statement lines x y = least_below (length lines) (λ k. names_tile x y (statement_at lines k))

-- whether the row's line below a statement has the character 1 at the column; false if there is no statement
abbrev pub character_below : List (List ℕ) → Option ℕ → ℕ → ℕ → Bool
character_below lines None row col = false
character_below lines (Some index) row col = row_bit (trimmed (line_at lines (index + 1 + row))) col

-- whether the character that stands for a bit of a tile is 1
abbrev pub character_of : List (List ℕ) → TileBit → Bool
character_of lines bit = character_below lines (tile_statement lines bit.x bit.y) bit.row bit.col

-- ---- extra bits

-- whether a statement is that of the extra bit at a place
abbrev pub names_extra : Place → Option Statement → Bool
names_extra at (Some (ExtraBit bank x y)) = is_same_place (extra_place bank x y) at
names_extra at statement = false

-- whether some statement is that of the extra bit at a place
unfoldable pub is_named_extra : List (List ℕ) → Place → Bool
is_named_extra lines at = any_below (length lines) (λ k. names_extra at (statement_at lines k))

-- ---- words

-- the index of the statement that begins the contents of that RAM
unfoldable pub ram_statement : List (List ℕ) → ℕ → ℕ → Option ℕ
ram_statement lines x y = least_below (length lines) (λ k. names_ram x y (statement_at lines k))

-- whether the digits of a word have a bit, sixteen words to a line below a statement; false if there is no statement
abbrev pub digit_bit_below : List (List ℕ) → Option ℕ → ℕ → ℕ → Bool
digit_bit_below lines None word bit = false
digit_bit_below lines (Some index) word bit = memory_bit (trimmed (line_at lines (index + 1 + word / 16))) (word % 16) bit

-- whether the digits that stand for a word of a RAM have a bit
abbrev pub digit_bit_of : List (List ℕ) → WordBit → Bool
digit_bit_of lines at = digit_bit_below lines (ram_statement lines at.x at.y) at.word at.bit

-- ---- the whole

-- whether a text says that a bit is 1
abbrev pub is_said : List (List ℕ) → Bit → Bool
is_said lines (OfTile bit) = character_of lines bit
is_said lines (OfWord bit) = digit_bit_of lines bit
is_said lines (Extra at) = is_named_extra lines at

-- Each bit of a tile is its character, each extra bit is 1 exactly if a statement names it, and each bit of a word is the bit of
-- its digits.
pub record HasBits (text : List ℕ) (image : Configuration) : Type 0 where
  pub bits : (bit : Bit) → IsBit image.layout bit → bit_of image bit ≡ is_said (lines_of text) bit
