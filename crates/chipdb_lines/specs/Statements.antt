-- Statements: what a line that begins with a dot says of the lines below it, or what is wrong with it. The tests of a statement are in the
-- order in which its faults are reported. Source: Project IceStorm, 'icebox chip database'; the order of the faults and the largest number
-- of nets are this project's choice.
use Rattle.std.specs.Prelude.{ℕ, Bool, true, false, not, ◌&&◌, List, [], ◌∷◌, length, drop, get_or, bytes_eq, codes, nat_le, nat_lt, ◌==◌, if◌then◌else◌, Option, Some, None, Result, Ok, Err}
use Rattle.std.specs.List.{list_all}
use Rattle.text_lines.specs.Words.{numbers_of}
use Rattle.plane_map.specs.Layout.{kind_of, columns_of, grid_width, grid_height}
use Rattle.plane_map.specs.declared.device.DeviceName.{DeviceName}
use Rattle.plane_map.specs.DeviceWords.{database_device_named}
use Rattle.plane_map.specs.declared.tile.TileKind.{TileKind}
use Rattle.plane_map.specs.declared.tile.TileKind.TheVariants.{Io, Logic, RamB, RamT}
use Rattle.plane_map.specs.declared.tile.RowCol.{RowCol}
use Rattle.chipdb_lines.specs.declared.cause.DbCause.{DbCause}
use Rattle.chipdb_lines.specs.declared.cause.DbCause.TheVariants.{NoDevice, Device, Number, TileKind as KindCause, NetRange, BitName, BitRange, CellBits}
use Rattle.chipdb_lines.specs.declared.keyword.Keyword.{Keyword}
use Rattle.chipdb_lines.specs.declared.keyword.Keyword.TheVariants.{Device as DeviceWord, GlobalInputs, GlobalPins, Tile, TileBits, ExtraBits, Net, Buffer, Routing, ExtraCell}
use Rattle.chipdb_lines.specs.declared.chip.Chip.{Chip}
use Rattle.chipdb_lines.specs.Words.{bits_of, has_none}

-- ---- keywords

-- the keyword that a word is, if it names a tile or the bits of a tile
abbrev pub tile_keyword_of : List ℕ → Option Keyword
tile_keyword_of word =
    if bytes_eq word (codes ".io_tile") then Some (Tile Io)
    else if bytes_eq word (codes ".logic_tile") then Some (Tile Logic)
    else if bytes_eq word (codes ".ramb_tile") then Some (Tile RamB)
    else if bytes_eq word (codes ".ramt_tile") then Some (Tile RamT)
    else if bytes_eq word (codes ".io_tile_bits") then Some (TileBits Io)
    else if bytes_eq word (codes ".logic_tile_bits") then Some (TileBits Logic)
    else if bytes_eq word (codes ".ramb_tile_bits") then Some (TileBits RamB)
    else if bytes_eq word (codes ".ramt_tile_bits") then Some (TileBits RamT)
    else None

-- the keyword that a word is; statements with another word are skipped, together with their lines
unfoldable pub keyword_of : List ℕ → Option Keyword
keyword_of word =
    if bytes_eq word (codes ".buffer") then Some Buffer
    else if bytes_eq word (codes ".routing") then Some Routing
    else if bytes_eq word (codes ".net") then Some Net
    else if bytes_eq word (codes ".device") then Some DeviceWord
    else if bytes_eq word (codes ".gbufin") then Some GlobalInputs
    else if bytes_eq word (codes ".gbufpin") then Some GlobalPins
    else if bytes_eq word (codes ".extra_bits") then Some ExtraBits
    else if bytes_eq word (codes ".extra_cell") then Some ExtraCell
    else tile_keyword_of word

-- ---- the device

-- a device, if the size of its grid is right and the number of nets is allowed
abbrev pub chip_of_numbers : Option DeviceName → Option (List ℕ) → Option Chip
chip_of_numbers (Some device) (Some (width ∷ height ∷ nets ∷ [])) =
    if (width == grid_width device) && (height == grid_height device) && nat_le nets 16777216
    then Some (record { device = device; nets = nets })
    else None
chip_of_numbers device numbers = None

-- `.device NAME WIDTH HEIGHT NUM_NETS`
unfoldable pub chip_of_words : List (List ℕ) → Option Chip
chip_of_words [] = None
chip_of_words (name ∷ sizes) = chip_of_numbers (database_device_named name) (numbers_of sizes)

-- ---- bits

abbrev pub is_in_columns : ℕ → RowCol → Bool
is_in_columns columns bit = nat_lt bit.row 16 && nat_lt bit.col columns

abbrev pub checked_bits : ℕ → Option (List RowCol) → Result (List RowCol) DbCause
checked_bits columns None = Err BitName
checked_bits columns (Some bits) =
    if not (list_all (is_in_columns columns) bits) then Err BitRange
    else if nat_lt 64 (length bits) then Err CellBits
    else Ok bits

-- the bits that words name, in a tile with `columns` columns of bits
unfoldable pub tile_bits_of : ℕ → List (List ℕ) → Result (List RowCol) DbCause
tile_bits_of columns words = checked_bits columns (bits_of words)

-- ---- blocks

-- the tile, the net that the links drive, and the bits that choose among them
pub record LinkHead : Type 0 where
  pub x : ℕ
  pub y : ℕ
  pub dst : ℕ
  pub bits : List RowCol

-- what the lines below a statement are
pub data Block : Type 0 where
  -- skipped
  passed : Block
  -- skipped too: the statement gives the device
  of_device : Chip → Block
  -- `X Y GLB`
  global_inputs : Block
  -- `X Y PIO GLB`
  global_pins : Block
  -- `FUNCTION BIT BIT ...` of tiles of a kind
  functions : TileKind → Block
  -- `FUNCTION BANK X Y`
  extra_bits : Block
  -- `X Y NAME` of a net
  names : ℕ → Block
  -- `VALUES SRC`
  buffers : LinkHead → Block
  routings : LinkHead → Block
  -- `NAME X Y WORD` of the PLL at (x, y), which may be outside of the grid
  pll : ℕ → ℕ → Block

-- a statement of one word
abbrev pub alone : Block → List (List ℕ) → Result Block DbCause
alone block words = if has_none words then Ok block else Err Number

abbrev pub is_same_kind : TileKind → TileKind → Bool
is_same_kind Io Io = true
is_same_kind Logic Logic = true
is_same_kind RamB RamB = true
is_same_kind RamT RamT = true
is_same_kind there kind = false

-- whether there is a tile, and it is of that kind
abbrev pub is_kind_there : TileKind → Option TileKind → Bool
is_kind_there kind None = false
is_kind_there kind (Some there) = is_same_kind there kind

-- `.io_tile X Y`, and the same for the other kinds of tiles
abbrev pub tile_of_numbers : DeviceName → TileKind → Option (List ℕ) → Result Block DbCause
tile_of_numbers device kind (Some (x ∷ y ∷ [])) = if is_kind_there kind (kind_of device x y) then Ok passed else Err KindCause
tile_of_numbers device kind numbers = Err Number

-- `.io_tile_bits COLUMNS ROWS`, and the same for the other kinds of tiles
abbrev pub tile_bits_of_numbers : TileKind → Option (List ℕ) → Result Block DbCause
tile_bits_of_numbers kind (Some (columns ∷ rows ∷ [])) =
    if (columns == columns_of kind) && (rows == 16) then Ok (functions kind) else Err KindCause
tile_bits_of_numbers kind numbers = Err Number

-- `.net N`
abbrev pub net_of_numbers : ℕ → Option (List ℕ) → Result ℕ DbCause
net_of_numbers nets (Some (net ∷ [])) = if nat_lt net nets then Ok net else Err NetRange
net_of_numbers nets numbers = Err Number

abbrev pub link_head : ℕ → ℕ → ℕ → Result (List RowCol) DbCause → Result LinkHead DbCause
link_head x y dst (Ok bits) = Ok (record { x = x; y = y; dst = dst; bits = bits })
link_head x y dst (Err cause) = Err cause

abbrev pub link_at : ℕ → ℕ → ℕ → ℕ → Option TileKind → List (List ℕ) → Result LinkHead DbCause
link_at nets x y dst None bits = Err KindCause
link_at nets x y dst (Some kind) bits =
    if nat_lt dst nets then link_head x y dst (tile_bits_of (columns_of kind) bits) else Err NetRange

abbrev pub link_of_numbers : Chip → Option (List ℕ) → List (List ℕ) → Result LinkHead DbCause
link_of_numbers chip (Some (x ∷ y ∷ dst ∷ [])) bits = link_at chip.nets x y dst (kind_of chip.device x y) bits
link_of_numbers chip numbers bits = Err Number

-- `X Y DST BIT ...`, with at least one bit
unfoldable pub link_of_words : Chip → List (List ℕ) → Result LinkHead DbCause
link_of_words chip (x ∷ y ∷ dst ∷ bit ∷ bits) = link_of_numbers chip (numbers_of (x ∷ y ∷ dst ∷ [])) (bit ∷ bits)
link_of_words chip words = Err Number

abbrev pub pll_of_numbers : Option (List ℕ) → Block
pll_of_numbers (Some (x ∷ y ∷ [])) = pll x y
pll_of_numbers numbers = passed

abbrev pub cell_of_kind : List ℕ → List ℕ → List ℕ → Block
cell_of_kind x y kind = if bytes_eq kind (codes "PLL") then pll_of_numbers (numbers_of (x ∷ y ∷ [])) else passed

-- `.extra_cell X Y PLL`; with other words, or numbers that are no decimal numbers, it is skipped and is no fault
unfoldable pub extra_cell_of : List (List ℕ) → Block
extra_cell_of (x ∷ y ∷ kind ∷ []) = cell_of_kind x y kind
extra_cell_of words = passed

abbrev pub names_block : Result ℕ DbCause → Result Block DbCause
names_block (Ok net) = Ok (names net)
names_block (Err cause) = Err cause

abbrev pub buffers_block : Result LinkHead DbCause → Result Block DbCause
buffers_block (Ok head) = Ok (buffers head)
buffers_block (Err cause) = Err cause

abbrev pub routings_block : Result LinkHead DbCause → Result Block DbCause
routings_block (Ok head) = Ok (routings head)
routings_block (Err cause) = Err cause

-- what a statement says of the lines below it, or what is wrong with it; repeats of earlier statements aren't looked for here
unfoldable pub block_of : Chip → Keyword → List (List ℕ) → Result Block DbCause
block_of chip DeviceWord words = Err Device
block_of chip GlobalInputs words = alone global_inputs words
block_of chip GlobalPins words = alone global_pins words
block_of chip (Tile kind) words = tile_of_numbers chip.device kind (numbers_of words)
block_of chip (TileBits kind) words = tile_bits_of_numbers kind (numbers_of words)
block_of chip ExtraBits words = alone extra_bits words
block_of chip Net words = names_block (net_of_numbers chip.nets (numbers_of words))
block_of chip Buffer words = buffers_block (link_of_words chip words)
block_of chip Routing words = routings_block (link_of_words chip words)
block_of chip ExtraCell words = Ok (extra_cell_of words)

-- what `.device` says if no device was given before
abbrev pub device_block : Option Chip → Result Block DbCause
device_block (Some chip) = Ok (of_device chip)
device_block None = Err Device

-- what a statement says if no device was given before; `.extra_cell` is skipped then
abbrev pub block_without : Keyword → List (List ℕ) → Result Block DbCause
block_without DeviceWord words = device_block (chip_of_words words)
block_without ExtraCell words = Ok passed
block_without keyword words = Err NoDevice

abbrev pub block_by : Option Chip → Option Keyword → List (List ℕ) → Result Block DbCause
block_by chip None words = Ok passed
block_by None (Some keyword) words = block_without keyword words
block_by (Some chip) (Some keyword) words = block_of chip keyword words

-- what a statement of these words says; `chip` is the device that was given before, if one was
unfoldable pub statement_of : Option Chip → List (List ℕ) → Result Block DbCause
statement_of chip words = block_by chip (keyword_of (get_or words 0 [])) (drop 1 words)
