-- Logic cells: the bits of each, the cells that are used, and carry inputs that are set (Project IceStorm, 'LOGIC Tile').
use Rattle.std.specs.Prelude.{ℕ, zero, suc, Bool, false, ◌&&◌, List, [], ◌∷◌, ◌++◌, map, get_or, codes, if◌then◌else◌, Option, Some, None}
use Rattle.std.specs.List.{list_any}
use Rattle.bit_plane.specs.BitList.{word_of}
use Rattle.plane_map.specs.declared.tile.RowCol.{RowCol}
use Rattle.plane_map.specs.declared.tile.TileKind.TheVariants.{Logic}
use Rattle.ice_image.specs.Configuration.{Configuration}
use Rattle.chipdb_lines.specs.Items.{FunctionLine}
use Rattle.chipdb_reader.specs.Database.{Database}
use Rattle.index_search.specs.Places.{gathered_below}
use Rattle.fabric_model.specs.declared.cell.LogicCell.{LogicCell}
use Rattle.fabric_model.specs.declared.cell.CarrySet.{CarrySet}
use Rattle.fabric_model.specs.On.{bits_at, function_named, is_function_on}
use Rattle.fabric_model.specs.Tiles.{over_tiles, each_below, item_if}
use Rattle.fabric_model.specs.Nets.{net_named, with_number, ending_in}

-- ---- the bits of a cell

-- the name of the function that lists the bits of cell i
abbrev pub cell_name : ℕ → List ℕ
cell_name i = ending_in (codes "LC_") i

-- the rows and columns that a function lists, and none if the function is missing
abbrev pub bits_of_line : Option FunctionLine → List RowCol
bits_of_line None = []
bits_of_line (Some function) = function.bits

-- where the 20 bits of cell i lie in its tile
unfoldable pub cell_places : Database → ℕ → List RowCol
cell_places db i = bits_of_line (function_named db Logic (cell_name i))

-- the 20 bits of cell i
unfoldable pub cell_bits : Database → Configuration → ℕ → ℕ → ℕ → List Bool
cell_bits db image x y i = bits_at image x y (cell_places db i)

-- bit k of a cell's bits; 0 if it is missing
abbrev pub cell_bit : List Bool → ℕ → Bool
cell_bit bits k = get_or bits k false

-- which bits of a cell are `CarryEnable`, `DffEnable`, `Set_NoReset` and `AsyncSetReset` (Project IceStorm, 'LOGIC Tile')
abbrev pub carry_enable : ℕ
carry_enable = 8

abbrev pub dff_enable : ℕ
dff_enable = 9

abbrev pub set_no_reset : ℕ
set_no_reset = 18

abbrev pub async_set_reset : ℕ
async_set_reset = 19

-- the numbers of the bits that are entries 0 to 15 of the LUT (Project IceStorm, 'LOGIC Tile')
unfoldable pub entry_bits : List ℕ
entry_bits = 4 ∷ 14 ∷ 15 ∷ 5 ∷ 6 ∷ 16 ∷ 17 ∷ 7 ∷ 3 ∷ 13 ∷ 12 ∷ 2 ∷ 1 ∷ 11 ∷ 10 ∷ 0 ∷ []

-- the number that some of the bits of a cell form, the first of them the lowest
abbrev pub number_of : List ℕ → List Bool → ℕ
number_of numbers bits = word_of (map (cell_bit bits) numbers)

-- the entries of the LUT as a number, whose bit k is entry k
abbrev pub lut_of : List Bool → ℕ
lut_of bits = number_of entry_bits bits

-- the four bits beside the LUT
unfoldable pub flag_bits : List ℕ
flag_bits = carry_enable ∷ dff_enable ∷ set_no_reset ∷ async_set_reset ∷ []

-- these four as a number
abbrev pub flags_of : List Bool → ℕ
flags_of bits = number_of flag_bits bits

-- whether the carry of the cell is on: `CarryEnable`
abbrev pub has_carry : List Bool → Bool
has_carry bits = cell_bit bits carry_enable

-- whether the cell has a flip-flop: `DffEnable`
abbrev pub has_flip : List Bool → Bool
has_flip bits = cell_bit bits dff_enable

-- whether the flip-flop's set or reset is a set: `Set_NoReset`
abbrev pub is_setting : List Bool → Bool
is_setting bits = cell_bit bits set_no_reset

-- whether the set or reset is asynchronous: `AsyncSetReset`
abbrev pub is_asynchronous : List Bool → Bool
is_asynchronous bits = cell_bit bits async_set_reset

-- a cell is used if one of its bits is 1
abbrev pub is_used : List Bool → Bool
is_used bits = list_any (λ bit. bit) bits

-- a flip-flop with an asynchronous set or reset
abbrev pub is_at_once : List Bool → Bool
is_at_once bits = has_flip bits && is_asynchronous bits

-- ---- the nets of a cell

-- the net of a port of cell i, such as `lutff_i/out`
abbrev pub lutff_net : Database → ℕ → ℕ → ℕ → List ℕ → Option ℕ
lutff_net db x y i port = net_named db x y (with_number (codes "lutff_") i port)

-- the net of a port that the cells of a tile share, such as `lutff_global/clk`
abbrev pub shared_net : Database → ℕ → ℕ → List ℕ → Option ℕ
shared_net db x y port = net_named db x y (codes "lutff_global/" ++ port)

-- the carry-in: `carry_in_mux` of the tile for cell 0, and the carry-out of the cell before for any other cell
abbrev pub carry_in_net : Database → ℕ → ℕ → ℕ → Option ℕ
carry_in_net db x y zero = net_named db x y (codes "carry_in_mux")
carry_in_net db x y (suc i) = lutff_net db x y i (codes "/cout")

-- ---- cells

-- cell i of the tile at (x, y), which has these bits: an `SB_LUT4`, an `SB_CARRY`, and an `SB_DFF` or one of its forms with clock enable,
-- set or reset
unfoldable pub cell_with : Database → Configuration → ℕ → ℕ → ℕ → List Bool → LogicCell
cell_with db image x y i bits = record {
  x = x;
  y = y;
  i = i;
  lut = lut_of bits;
  carry = has_carry bits;
  flip = has_flip bits;
  «set» = is_setting bits;
  is_async = is_at_once bits;
  neg = is_function_on db image Logic x y (codes "NegClk");
  ins = each_below 4 (λ k. lutff_net db x y i (ending_in (codes "/in_") k));
  out = lutff_net db x y i (codes "/out");
  lout = lutff_net db x y i (codes "/lout");
  cout = lutff_net db x y i (codes "/cout");
  cin = carry_in_net db x y i;
  clk = shared_net db x y (codes "clk");
  cen = shared_net db x y (codes "cen");
  sr = shared_net db x y (codes "s_r");
}

-- cell i if it is used
abbrev pub used_cell : Database → Configuration → ℕ → ℕ → ℕ → List LogicCell
used_cell db image x y i =
    let bits = cell_bits db image x y i in
    item_if (is_used bits) (cell_with db image x y i bits)

-- the used cells of a tile, by index
unfoldable pub cells_at : Database → Configuration → ℕ → ℕ → List LogicCell
cells_at db image x y = gathered_below 8 (used_cell db image x y)

-- the used cells, by tile and index
unfoldable pub cells_of : Database → Configuration → List LogicCell
cells_of db image = over_tiles image.layout.device Logic (cells_at db image)

-- ---- carry inputs that are set

abbrev pub set_with : ℕ → ℕ → Option ℕ → List CarrySet
set_with x y None = []
set_with x y (Some net) = record { x = x; y = y; net = net } ∷ []

-- the net `carry_in_mux` of a tile if `CarryInSet` is on
abbrev pub sets_at : Database → Configuration → ℕ → ℕ → List CarrySet
sets_at db image x y = if is_function_on db image Logic x y (codes "CarryInSet") then set_with x y (net_named db x y (codes "carry_in_mux")) else []

-- all of them, by tile
unfoldable pub sets_of : Database → Configuration → List CarrySet
sets_of db image = over_tiles image.layout.device Logic (sets_at db image)
