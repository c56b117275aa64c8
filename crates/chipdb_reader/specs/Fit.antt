-- What holds of every database: its lines name only tiles, bits and nets that the device has, but those of PLLs, which may name others. And
-- no two PLLs are at one tile.
use Rattle.std.specs.Prelude.{◌≡◌, ℕ, ◌<◌, ◌≤◌, Bool, true, ◌&&◌, ◌==◌, length, All, Some}
use Rattle.std.specs.List.{IsDistinct}
use Rattle.plane_map.specs.Layout.{kind_of, columns_of, grid_width, grid_height, IsInCram}
use Rattle.plane_map.specs.declared.tile.TileKind.{TileKind}
use Rattle.plane_map.specs.declared.tile.TileKind.TheVariants.{Io}
use Rattle.plane_map.specs.declared.tile.RowCol.{RowCol}
use Rattle.chipdb_lines.specs.declared.chip.Chip.{Chip}
use Rattle.chipdb_lines.specs.declared.globals.GlobalInput.{GlobalInput}
use Rattle.chipdb_lines.specs.declared.globals.GlobalPin.{GlobalPin}
use Rattle.chipdb_lines.specs.Items.{NameLine, FunctionLine, ExtraLine, is_cell}
use Rattle.chipdb_reader.specs.Database.{Database, Link, Pll}

-- a bit of tiles with `columns` columns of bits
pub record IsBitIn (columns : ℕ) (bit : RowCol) : Type 0 where
  pub row_in : bit.row < 16
  pub col_in : bit.col < columns

-- a link between nets of the device, in one of its tiles, by at most 64 of the tile's bits
pub record IsLink (chip : Chip) (link : Link) : Type 0 where
  pub kind : TileKind
  pub tile : kind_of chip.device link.x link.y ≡ Some kind
  pub dst_in : link.dst < chip.nets
  pub src_in : link.src < chip.nets
  pub bits_in : All (IsBitIn (columns_of kind)) link.bits
  pub few : length link.bits ≤ 64

-- a function by at most 64 bits of a tile of its kind; a logic cell has 20
pub record IsFunctionLine (line : FunctionLine) : Type 0 where
  pub bits_in : All (IsBitIn (columns_of line.kind)) line.bits
  pub few : length line.bits ≤ 64
  pub cell : is_cell line.kind line.name ≡ true → length line.bits ≡ 20

-- a place of the configuration planes
abbrev pub IsExtraLine : Chip → ExtraLine → Type 0
IsExtraLine chip line = IsInCram chip.device line.at

-- a name of a net of the device at a place of the grid
pub record IsNameLine (chip : Chip) (line : NameLine) : Type 0 where
  pub net_in : line.net < chip.nets
  pub x_in : line.x < grid_width chip.device
  pub y_in : line.y < grid_height chip.device

-- an io tile, and one of the eight global nets
pub record IsGlobalInput (chip : Chip) (input : GlobalInput) : Type 0 where
  pub tile : kind_of chip.device input.x input.y ≡ Some Io
  pub global_in : input.global ≤ 7

-- one of the two pads of an io tile, and one of the eight global nets
pub record IsGlobalPin (chip : Chip) (pin : GlobalPin) : Type 0 where
  pub tile : kind_of chip.device pin.x pin.y ≡ Some Io
  pub pad_in : pin.pad ≤ 1
  pub global_in : pin.global ≤ 7

-- the place of a PLL: two numbers of at most nine digits
pub record IsPlacedPll (pll : Pll) : Type 0 where
  pub x_few : pll.x < 1000000000
  pub y_few : pll.y < 1000000000

-- whether two PLLs are at one tile
abbrev pub is_same_tile : Pll → Pll → Bool
is_same_tile pll other = (other.x == pll.x) && (other.y == pll.y)

-- all lines of a database are such lines
pub record IsFit (database : Database) : Type 0 where
  pub names : All (IsNameLine database.chip) database.names
  pub buffers : All (IsLink database.chip) database.buffers
  pub routings : All (IsLink database.chip) database.routings
  pub functions : All IsFunctionLine database.functions
  pub extras : All (IsExtraLine database.chip) database.extras
  pub global_inputs : All (IsGlobalInput database.chip) database.global_inputs
  pub global_pins : All (IsGlobalPin database.chip) database.global_pins
  pub plls : All IsPlacedPll database.plls
  pub plls_apart : IsDistinct is_same_tile database.plls
