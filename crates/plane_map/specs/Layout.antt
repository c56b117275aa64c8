-- Which tiles a device has, and where a layout puts each of their bits in the device's planes: closed formulas over the
-- grid. Project IceStorm documents the tiles and their sizes ('LP/HX 1K overview', 'LOGIC Tile', 'IO Tile', 'RAM Tile') and the banks and
-- planes ('Bitstream File Format Documentation').
-- The standard layouts are this project's own tables; other layouts come from layout files. The grid is counted from
-- its left bottom corner. The side edges are its left and its right edge, the end edges its bottom and its top row. A formula
-- needs only how far a column of tiles is from its side edge, and a row of tiles from its end edge.
use Rattle.std.specs.Prelude.{◌≡◌, ◌≢◌, ℕ, zero, suc, ◌+◌, ◌-◌, ◌*◌, ◌/◌, ◌%◌, ◌<◌, Bool, true, false, ◌&&◌, ◌||◌, List, [], ◌∷◌, slice_index, nat_lt, nat_le, not, ◌==◌, if◌then◌else◌, Option, Some, None, length}
use Rattle.plane_map.specs.declared.device.DeviceName.{DeviceName}
use Rattle.plane_map.specs.declared.device.DeviceName.TheVariants.{Lp384, Hx1k, Hx8k}
use Rattle.plane_map.specs.declared.tile.TileKind.{TileKind}
use Rattle.plane_map.specs.declared.tile.TileKind.TheVariants.{Io, Logic, RamB, RamT}
use Rattle.plane_map.specs.declared.tile.TileBit.{TileBit}
use Rattle.plane_map.specs.declared.tile.WordBit.{WordBit}
use Rattle.plane_map.specs.declared.tile.Place.{Place}

-- ---- the grid

-- the most columns, and the most rows, that the grid of a device has
abbrev pub max_side : ℕ
max_side = 34

-- how many columns of tiles there are
abbrev pub grid_width : DeviceName → ℕ
grid_width Lp384 = 8
grid_width Hx1k = 14
grid_width Hx8k = 34

-- how many rows of tiles there are
abbrev pub grid_height : DeviceName → ℕ
grid_height Lp384 = 10
grid_height Hx1k = 18
grid_height Hx8k = 34

-- The left one of the two columns of RAM; the right one is equally far from the right edge. It is 0 if the device has no RAM: column 0
-- is the edge, which has io tiles only.
abbrev pub ram_column : DeviceName → ℕ
ram_column Lp384 = 0
ram_column Hx1k = 3
ram_column Hx8k = 8

-- the right edge
abbrev pub last_x : DeviceName → ℕ
last_x device = grid_width device - 1

-- the top edge
abbrev pub last_y : DeviceName → ℕ
last_y device = grid_height device - 1

-- whether a column of tiles is the left or the right edge
abbrev pub is_side : DeviceName → ℕ → Bool
is_side device x = (x == 0) || (x == last_x device)

-- whether a row of tiles is the bottom or the top edge
abbrev pub is_end : DeviceName → ℕ → Bool
is_end device y = (y == 0) || (y == last_y device)

-- The kind of the tile at a position of the grid. Corners have no tile, all other positions on the edge have io tiles, a column of RAM
-- has lower tiles at odd y and upper ones at even y, and all other positions have logic tiles.
unfoldable pub kind_of : DeviceName → ℕ → ℕ → Option TileKind
kind_of device x y =
    if nat_le (grid_width device) x || nat_le (grid_height device) y then None
    else if is_side device x && is_end device y then None
    else if is_side device x || is_end device y then Some Io
    else if (x == ram_column device) || (x + ram_column device == last_x device) then (if y % 2 == 1 then Some RamB else Some RamT)
    else Some Logic

-- how many columns of bits a tile has; it has 16 rows
abbrev pub columns_of : TileKind → ℕ
columns_of Io = 18
columns_of Logic = 54
columns_of RamB = 42
columns_of RamT = 42

-- how many columns of bits a tile has, and 0 if there is none
abbrev pub columns_in : Option TileKind → ℕ
columns_in None = 0
columns_in (Some kind) = columns_of kind

-- how many columns of bits the tile at a position of the grid has, and 0 if there is none
abbrev pub columns_at : DeviceName → ℕ → ℕ → ℕ
columns_at device x y = columns_in (kind_of device x y)

-- a bit that a tile of the device has
pub record IsTileBit (device : DeviceName) (bit : TileBit) : Type 0 where
  pub row_in : bit.row < 16
  pub col_in : bit.col < columns_at device bit.x bit.y

-- a bit of a word that a RAM of the device has; the RAM is named by its lower tile
pub record IsWordBit (device : DeviceName) (at : WordBit) : Type 0 where
  pub lower : kind_of device at.x at.y ≡ Some RamB
  pub word_in : at.word < 256
  pub bit_in : at.bit < 16

-- ---- the planes

-- how many columns and rows of bits each of the four configuration planes has
abbrev pub cram_width : DeviceName → ℕ
cram_width Lp384 = 182
cram_width Hx1k = 332
cram_width Hx8k = 872

abbrev pub cram_height : DeviceName → ℕ
cram_height Lp384 = 80
cram_height Hx1k = 144
cram_height Hx8k = 272

-- how many columns and rows of bits each of the four RAM planes has: 0 if the device has no RAM
abbrev pub bram_width : DeviceName → ℕ
bram_width Lp384 = 0
bram_width Hx1k = 64
bram_width Hx8k = 128

abbrev pub bram_height : DeviceName → ℕ
bram_height Lp384 = 0
bram_height Hx1k = 256
bram_height Hx8k = 256

-- a place of the device's four configuration planes
pub record IsInCram (device : DeviceName) (at : Place) : Type 0 where
  pub bank_in : at.bank < 4
  pub px_in : at.px < cram_width device
  pub py_in : at.py < cram_height device

-- a place of the device's four RAM planes
pub record IsInBram (device : DeviceName) (at : Place) : Type 0 where
  pub bank_in : at.bank < 4
  pub px_in : at.px < bram_width device
  pub py_in : at.py < bram_height device

-- ---- layouts

-- How a device lays out its bits: which columns and rows of its planes the bits of its tiles take, and in which bank the bits of each
-- quarter of its grid are.
pub record Layout : Type 0 where
  pub device : DeviceName
  -- how many columns of bits each column of tiles takes, from the side edge inwards
  pub widths : List ℕ
  -- the column of bits of each column of an io tile of the left or the right edge, counted from that edge
  pub side_columns : List ℕ
  -- the column of bits of each column of an io tile of the bottom or the top row, from the start of its column of tiles
  pub pad_columns : List ℕ
  -- the row of bits of each row of an io tile of the bottom or the top row, from the inner end
  pub pad_rows : List ℕ
  -- the bank of each quarter: left bottom, left top, right bottom, right top
  pub banks : List ℕ
  -- whether the columns of tiles that are no io tiles are counted towards the side edge in the right half
  pub mirror : Bool
  -- whether row 0 of a tile is its innermost row of bits in the top half, except in the top row
  pub flip : Bool
  -- whether the columns of io tiles of the bottom and the top row are counted towards the side edge in the right half
  pub pad_mirror : Bool
  -- whether the RAMs of the top half are counted from the top
  pub ram_flip : Bool

-- how many columns of tiles each half of the grid has
abbrev pub half_width : DeviceName → ℕ
half_width device = grid_width device / 2

-- how many columns of bits a column of tiles needs at least, by how far it is from the side edge
abbrev pub least_width : DeviceName → ℕ → ℕ
least_width device u = if u == 0 then 18 else if u == ram_column device then 42 else 54

-- how many columns of bits the columns of tiles before that one take
unfoldable pub start_in : List ℕ → ℕ → ℕ
start_in widths zero = 0
start_in widths (suc u) = start_in widths u + slice_index widths u

-- whether each of the first columns of tiles is as wide as it needs to be
abbrev pub are_wide : DeviceName → List ℕ → ℕ → Bool
are_wide device widths zero = true
are_wide device widths (suc u) = are_wide device widths u && nat_le (least_width device u) (slice_index widths u)

-- whether the columns of tiles are as wide as they need to be, and a plane has room for them
abbrev pub are_widths : DeviceName → List ℕ → Bool
are_widths device widths =
    (length widths == half_width device) && are_wide device widths (half_width device)
    && nat_le (start_in widths (half_width device)) (cram_width device)

-- whether a number is an entry
abbrev pub occurs : ℕ → List ℕ → Bool
occurs n [] = false
occurs n (x ∷ xs) = (n == x) || occurs n xs

-- whether no entry occurs twice
abbrev pub are_distinct : List ℕ → Bool
are_distinct [] = true
are_distinct (x ∷ xs) = not (occurs x xs) && are_distinct xs

-- whether each entry is below a number
abbrev pub are_below : ℕ → List ℕ → Bool
are_below n [] = true
are_below n (x ∷ xs) = nat_lt x n && are_below n xs

-- whether a list has exactly `count` entries, all different and each below a bound: a permutation if both numbers are equal
abbrev pub are_places : ℕ → ℕ → List ℕ → Bool
are_places count bound entries = (length entries == count) && are_distinct entries && are_below bound entries

-- What a layout has to fulfil, so that no two bits lie at one place: its lists have the lengths and the numbers that they need.
pub record IsLayout (layout : Layout) : Type 0 where
  pub widths : are_widths layout.device layout.widths ≡ true
  pub side_columns : are_places 18 18 layout.side_columns ≡ true
  pub pad_columns : are_places 18 42 layout.pad_columns ≡ true
  pub pad_rows : are_places 16 16 layout.pad_rows ≡ true
  pub banks : are_places 4 4 layout.banks ≡ true

-- ---- the standard layouts

-- how many columns of bits the columns of tiles take
unfoldable pub standard_widths : DeviceName → List ℕ
standard_widths Lp384 = 18 ∷ 54 ∷ 54 ∷ 54 ∷ []
standard_widths Hx1k = 18 ∷ 54 ∷ 54 ∷ 42 ∷ 54 ∷ 54 ∷ 54 ∷ []
standard_widths Hx8k = 18 ∷ 54 ∷ 54 ∷ 54 ∷ 54 ∷ 54 ∷ 54 ∷ 54 ∷ 42 ∷ 54 ∷ 54 ∷ 54 ∷ 54 ∷ 54 ∷ 54 ∷ 54 ∷ 54 ∷ []

-- the columns of bits of the io tiles of the sides, from the inner column to the edge
unfoldable pub standard_side_columns : List ℕ
standard_side_columns = 17 ∷ 16 ∷ 15 ∷ 14 ∷ 13 ∷ 12 ∷ 11 ∷ 10 ∷ 9 ∷ 8 ∷ 7 ∷ 6 ∷ 5 ∷ 4 ∷ 3 ∷ 2 ∷ 1 ∷ 0 ∷ []

-- the columns of bits of the io tiles of the bottom and the top row
unfoldable pub standard_pad_columns : List ℕ
standard_pad_columns = 23 ∷ 25 ∷ 26 ∷ 27 ∷ 16 ∷ 17 ∷ 18 ∷ 19 ∷ 20 ∷ 14 ∷ 32 ∷ 33 ∷ 34 ∷ 35 ∷ 36 ∷ 37 ∷ 4 ∷ 5 ∷ []

-- the rows of bits of the io tiles of the bottom and the top row
unfoldable pub standard_pad_rows : List ℕ
standard_pad_rows = 0 ∷ 1 ∷ 3 ∷ 2 ∷ 4 ∷ 5 ∷ 7 ∷ 6 ∷ 8 ∷ 9 ∷ 11 ∷ 10 ∷ 12 ∷ 13 ∷ 15 ∷ 14 ∷ []

-- the banks of the quarters
unfoldable pub standard_banks : List ℕ
standard_banks = 0 ∷ 1 ∷ 2 ∷ 3 ∷ []

-- the layout that a device has if no other is given
abbrev pub standard_layout : DeviceName → Layout
standard_layout device = record {
  device = device;
  widths = standard_widths device;
  side_columns = standard_side_columns;
  pad_columns = standard_pad_columns;
  pad_rows = standard_pad_rows;
  banks = standard_banks;
  mirror = true;
  flip = true;
  pad_mirror = false;
  ram_flip = true;
}

-- ---- the places

-- whether a column of tiles is in the right half
abbrev pub is_right : DeviceName → ℕ → Bool
is_right device x = nat_lt (last_x device) (2 * x)

-- whether a row of tiles is in the top half
abbrev pub is_top : DeviceName → ℕ → Bool
is_top device y = nat_lt (last_y device) (2 * y)

-- the quarter of the grid: left bottom, left top, right bottom, right top
abbrev pub quarter_of : DeviceName → ℕ → ℕ → ℕ
quarter_of device x y = (if is_top device y then 1 else 0) + (if is_right device x then 2 else 0)

-- the bank of a quarter
abbrev pub bank_of : Layout → ℕ → ℕ → ℕ
bank_of layout x y = slice_index layout.banks (quarter_of layout.device x y)

-- how many columns of tiles lie between a tile and the nearer side edge
abbrev pub from_side : DeviceName → ℕ → ℕ
from_side device x = if is_right device x then last_x device - x else x

-- how many rows of tiles lie between a tile and the nearer end edge
abbrev pub from_end : DeviceName → ℕ → ℕ
from_end device y = if is_top device y then last_y device - y else y

-- how many columns of bits a column of tiles takes, by how far it is from the side edge
abbrev pub width_of : Layout → ℕ → ℕ
width_of layout u = slice_index layout.widths u

-- how many columns of bits the columns of tiles before that one take
abbrev pub start_of : Layout → ℕ → ℕ
start_of layout u = start_in layout.widths u

-- Which column of bits of its column of tiles a bit takes, counted from the side edge, or from the inner end if the tile is
-- mirrored: an io tile has a list of its columns, and any other tile has its columns in order.
abbrev pub column_of : Layout → TileBit → ℕ
column_of layout bit =
    if is_side layout.device bit.x then slice_index layout.side_columns bit.col
    else if is_end layout.device bit.y then slice_index layout.pad_columns bit.col
    else bit.col

-- whether the columns of bits of a tile are counted from the inner end of its column of tiles, and not from the side edge, as in
-- the right half without the right edge, if the layout says so
abbrev pub is_mirrored : Layout → ℕ → ℕ → Bool
is_mirrored layout x y =
    is_right layout.device x && not (is_side layout.device x) && (if is_end layout.device y then layout.pad_mirror else layout.mirror)

-- the column of bits of a bit
abbrev pub px_of : Layout → TileBit → ℕ
px_of layout bit =
    let u = from_side layout.device bit.x in
    let column = column_of layout bit in
    if is_mirrored layout bit.x bit.y then start_of layout u + width_of layout u - 1 - column else start_of layout u + column

-- The row of bits of a bit. Rows are counted from the end edge inwards, and towards it in the top half of a layout that flips
-- it. An io tile of the bottom or the top row has a list of its rows, from the inner end.
abbrev pub py_of : Layout → TileBit → ℕ
py_of layout bit =
    let start = 16 * from_end layout.device bit.y in
    if is_end layout.device bit.y then start + 15 - slice_index layout.pad_rows bit.row
    else if is_top layout.device bit.y && layout.flip then start + 15 - bit.row
    else start + bit.row

-- where a bit of a tile lies
unfoldable pub place_of : Layout → TileBit → Place
place_of layout bit = record { bank = bank_of layout bit.x bit.y; px = px_of layout bit; py = py_of layout bit }

-- Which RAM of its bank a lower tile is: counted from the bottom in the bottom half, and in the top half from the top, or from
-- the lowest RAM of that half.
abbrev pub ram_of : Layout → ℕ → ℕ
ram_of layout y =
    let last = last_y layout.device in
    if is_top layout.device y then (if layout.ram_flip then (last - 2 - y) / 2 else (y - (last + 1) / 2) / 2) else (y - 1) / 2

-- where a bit of a word of a RAM lies: a word is a row, its highest bit first
unfoldable pub word_place_of : Layout → WordBit → Place
word_place_of layout at = record { bank = bank_of layout at.x at.y; px = 16 * ram_of layout at.y + 15 - at.bit; py = at.word }

-- a place that no bit of a tile has
abbrev pub IsExtraBit : Layout → Place → Type 0
IsExtraBit layout at = (bit : TileBit) → IsTileBit layout.device bit → place_of layout bit ≢ at
