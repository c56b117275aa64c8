-- Lines below statements: what each says, or what is wrong with it. The tests of a line are in the order in which its faults are reported.
-- Source: Project IceStorm, 'icebox chip database'; the order of the faults is this project's choice.
use Rattle.std.specs.Prelude.{ℕ, Bool, false, not, ◌&&◌, List, [], ◌∷◌, length, map, bytes_eq, codes, nat_le, nat_lt, ◌==◌, if◌then◌else◌, Option, Some, None, Result, Ok, Err}
use Rattle.std.specs.List.{list_any}
use Rattle.text_lines.specs.Words.{number_of, numbers_of}
use Rattle.plane_map.specs.Layout.{kind_of, columns_of, grid_width, grid_height, cram_width, cram_height}
use Rattle.plane_map.specs.declared.device.DeviceName.{DeviceName}
use Rattle.plane_map.specs.declared.tile.TileKind.{TileKind}
use Rattle.plane_map.specs.declared.tile.TileKind.TheVariants.{Io, Logic}
use Rattle.plane_map.specs.declared.tile.RowCol.{RowCol}
use Rattle.plane_map.specs.declared.tile.Place.{Place}
use Rattle.chipdb_lines.specs.declared.cause.DbCause.{DbCause}
use Rattle.chipdb_lines.specs.declared.cause.DbCause.TheVariants.{Number, TileKind as KindCause, NetRange, BitRange, CellBits, ValueLength}
use Rattle.chipdb_lines.specs.declared.globals.GlobalInput.{GlobalInput}
use Rattle.chipdb_lines.specs.declared.globals.GlobalPin.{GlobalPin}
use Rattle.chipdb_lines.specs.Words.{is_values}
use Rattle.chipdb_lines.specs.Statements.{is_kind_there, tile_bits_of}

-- ---- global nets

-- the global net GLB, 0 to 7, and the io tile that drives it
abbrev pub global_input_of_numbers : DeviceName → Option (List ℕ) → Result GlobalInput DbCause
global_input_of_numbers device (Some (x ∷ y ∷ global ∷ [])) =
    if not (nat_le global 7) then Err Number
    else if not (is_kind_there Io (kind_of device x y)) then Err KindCause
    else Ok (record { x = x; y = y; global = global })
global_input_of_numbers device numbers = Err Number

-- `X Y GLB`
unfoldable pub global_input_of : DeviceName → List (List ℕ) → Result GlobalInput DbCause
global_input_of device words = global_input_of_numbers device (numbers_of words)

-- the global net GLB, 0 to 7, and the pad PIO, 0 or 1, that drives it
abbrev pub global_pin_of_numbers : DeviceName → Option (List ℕ) → Result GlobalPin DbCause
global_pin_of_numbers device (Some (x ∷ y ∷ pad ∷ global ∷ [])) =
    if not (nat_le pad 1 && nat_le global 7) then Err Number
    else if not (is_kind_there Io (kind_of device x y)) then Err KindCause
    else Ok (record { x = x; y = y; pad = pad; global = global })
global_pin_of_numbers device numbers = Err Number

-- `X Y PIO GLB`
unfoldable pub global_pin_of : DeviceName → List (List ℕ) → Result GlobalPin DbCause
global_pin_of device words = global_pin_of_numbers device (numbers_of words)

-- ---- functions

-- a function of the tiles of a kind, and its bits in each of them
pub record FunctionLine : Type 0 where
  pub kind : TileKind
  pub name : List ℕ
  pub bits : List RowCol

-- the names of the eight logic cells
abbrev pub cell_names : List (List ℕ)
cell_names = codes "LC_0" ∷ codes "LC_1" ∷ codes "LC_2" ∷ codes "LC_3" ∷ codes "LC_4" ∷ codes "LC_5" ∷ codes "LC_6" ∷ codes "LC_7" ∷ []

-- whether a function is a logic cell, which has 20 bits
abbrev pub is_cell : TileKind → List ℕ → Bool
is_cell Logic name = list_any (bytes_eq name) cell_names
is_cell kind name = false

abbrev pub function_with : TileKind → List ℕ → Result (List RowCol) DbCause → Result FunctionLine DbCause
function_with kind name (Ok bits) =
    if is_cell kind name && not (length bits == 20) then Err CellBits
    else Ok (record { kind = kind; name = name; bits = bits })
function_with kind name (Err cause) = Err cause

abbrev pub function_of_bits : TileKind → List ℕ → List (List ℕ) → Result FunctionLine DbCause
function_of_bits kind name [] = Err Number
function_of_bits kind name (bit ∷ bits) = function_with kind name (tile_bits_of (columns_of kind) (bit ∷ bits))

-- `FUNCTION BIT BIT ...`, with at least one bit
unfoldable pub function_of : TileKind → List (List ℕ) → Result FunctionLine DbCause
function_of kind [] = Err Number
function_of kind (name ∷ bits) = function_of_bits kind name bits

-- ---- extra bits

-- an extra bit and its place in the configuration planes
pub record ExtraLine : Type 0 where
  pub name : List ℕ
  pub at : Place

abbrev pub is_in_planes : DeviceName → ℕ → ℕ → ℕ → Bool
is_in_planes device bank x y = nat_lt bank 4 && nat_lt x (cram_width device) && nat_lt y (cram_height device)

abbrev pub extra_of_numbers : DeviceName → List ℕ → Option (List ℕ) → Result ExtraLine DbCause
extra_of_numbers device name (Some (bank ∷ x ∷ y ∷ [])) =
    if is_in_planes device bank x y then Ok (record { name = name; at = record { bank = bank; px = x; py = y } }) else Err BitRange
extra_of_numbers device name numbers = Err Number

-- `FUNCTION BANK X Y`
unfoldable pub extra_of : DeviceName → List (List ℕ) → Result ExtraLine DbCause
extra_of device [] = Err Number
extra_of device (name ∷ words) = extra_of_numbers device name (numbers_of words)

-- ---- names of nets

-- a name that a net has at a place of the grid
pub record NameLine : Type 0 where
  pub net : ℕ
  pub x : ℕ
  pub y : ℕ
  pub name : List ℕ

abbrev pub name_of_numbers : DeviceName → ℕ → List ℕ → Option (List ℕ) → Result NameLine DbCause
name_of_numbers device net name (Some (x ∷ y ∷ [])) =
    if nat_lt x (grid_width device) && nat_lt y (grid_height device)
    then Ok (record { net = net; x = x; y = y; name = name })
    else Err Number
name_of_numbers device net name numbers = Err Number

-- `X Y NAME` below the statement of a net
unfoldable pub name_of : DeviceName → ℕ → List (List ℕ) → Result NameLine DbCause
name_of device net (x ∷ y ∷ name ∷ []) = name_of_numbers device net name (numbers_of (x ∷ y ∷ []))
name_of device net words = Err Number

-- ---- links

-- one choice of a statement of links: the source net, and the values of the bits that choose it
pub record LinkChoice : Type 0 where
  pub values : List Bool
  pub src : ℕ

abbrev pub choice_by : ℕ → ℕ → List ℕ → Option ℕ → Result LinkChoice DbCause
choice_by nets count values None = Err Number
choice_by nets count values (Some src) =
    if not (nat_lt src nets) then Err NetRange
    else if not (is_values count values) then Err ValueLength
    else Ok (record { values = map (λ byte. byte == 49) values; src = src })

-- `VALUES SRC` below a statement with `count` bits
unfoldable pub choice_of : ℕ → ℕ → List (List ℕ) → Result LinkChoice DbCause
choice_of nets count (values ∷ src ∷ []) = choice_by nets count values (number_of src)
choice_of nets count words = Err Number

-- ---- PLLs

-- a line below the statement of a PLL: the name of a part, a place, and a word that says what the part is there; X and Y have one to nine
-- digits, as all numbers of a database
pub record PllLine : Type 0 where
  pub name : List ℕ
  pub x : ℕ
  pub y : ℕ
  pub word : List ℕ

abbrev pub pll_line_of_numbers : List ℕ → List ℕ → Option (List ℕ) → Option PllLine
pll_line_of_numbers name word (Some (x ∷ y ∷ [])) = Some (record { name = name; x = x; y = y; word = word })
pll_line_of_numbers name word numbers = None

-- `NAME X Y WORD`; a line of another form is skipped and is no fault
unfoldable pub pll_line_of : List (List ℕ) → Option PllLine
pll_line_of (name ∷ x ∷ y ∷ word ∷ []) = pll_line_of_numbers name word (numbers_of (x ∷ y ∷ []))
pll_line_of words = None
