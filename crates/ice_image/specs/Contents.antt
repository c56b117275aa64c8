-- What the planes of a device hold for its tiles and for the words of its RAMs, under a layout. Project IceStorm documents the tiles and
-- the 256 words of 16 bits of a RAM ('LOGIC Tile', 'IO Tile', 'RAM Tile').
use Rattle.std.specs.Prelude.{◌≡◌, ℕ, ◌<◌, List}
use Rattle.bit_plane.specs.BitList.{word_of}
use Rattle.bit_plane.specs.Rows.{Rows, row_from, rows_from}
use Rattle.plane_map.specs.Layout.{Layout, columns_at, place_of, word_place_of, IsTileBit}
use Rattle.plane_map.specs.declared.tile.Place.{Place}
use Rattle.plane_map.specs.declared.tile.RowCol.{RowCol}
use Rattle.ice_image.specs.Configuration.{place_bit}

-- where the bit of a tile's row and column lies
abbrev pub tile_place : Layout → ℕ → ℕ → ℕ → ℕ → Place
tile_place layout x y row col = place_of layout (record { x = x; y = y; row = row; col = col })

-- the sixteen rows of a tile
abbrev pub tile_rows : Layout → List Rows → ℕ → ℕ → Rows
tile_rows layout cram x y = rows_from (columns_at layout.device x y) 16 (λ col row. place_bit cram (tile_place layout x y row col))

-- a place of one of a tile's bits
abbrev pub IsPlaceOfTile : Layout → ℕ → ℕ → Place → Type 0
IsPlaceOfTile layout x y at =
    (row : ℕ) × (col : ℕ) × (row < 16) × (col < columns_at layout.device x y) × (tile_place layout x y row col ≡ at)

-- where a bit of a word of a RAM lies
abbrev pub word_bit_place : Layout → ℕ → ℕ → ℕ → ℕ → Place
word_bit_place layout x y word bit = word_place_of layout (record { x = x; y = y; word = word; bit = bit })

-- a word of a RAM: its bit b is worth 2 ^ b
abbrev pub word_value : Layout → List Rows → ℕ → ℕ → ℕ → ℕ
word_value layout bram x y word = word_of (row_from 16 (λ bit. place_bit bram (word_bit_place layout x y word bit)))

-- a place of one of a word's bits
abbrev pub IsPlaceOfWord : Layout → ℕ → ℕ → ℕ → Place → Type 0
IsPlaceOfWord layout x y word at = (bit : ℕ) × (bit < 16) × (word_bit_place layout x y word bit ≡ at)

-- a bit that the tile has
abbrev pub IsBitOfTile : Layout → ℕ → ℕ → RowCol → Type 0
IsBitOfTile layout x y bit = IsTileBit layout.device (record { x = x; y = y; row = bit.row; col = bit.col })
