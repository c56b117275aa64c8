-- What the set bits of a tile mean, in order.
use Rattle.std.specs.Prelude.{ℕ, Bool, false, not, ◌&&◌, ◌||◌, ◌==◌, List, [], ◌∷◌, ◌++◌, map, length, slice_get, if◌then◌else◌, Option, None, Some}
use Rattle.std.specs.List.{list_any}
use Rattle.index_search.specs.Places.{any_below, gathered_below}
use Rattle.plane_map.specs.Layout.{kind_of, columns_of}
use Rattle.plane_map.specs.declared.tile.RowCol.{RowCol}
use Rattle.plane_map.specs.declared.tile.TileKind.{TileKind}
use Rattle.plane_map.specs.declared.tile.TileKind.TheVariants.{Logic}
use Rattle.ice_image.specs.Configuration.{Configuration}
use Rattle.ice_image.specs.Bits.{tile_bit_of}
use Rattle.chipdb_lines.specs.Items.{FunctionLine}
use Rattle.chipdb_lines.specs.Statements.{is_same_kind}
use Rattle.chipdb_reader.specs.Database.{Database, Link}
use Rattle.image_explain.specs.declared.item.Active.{Active}
use Rattle.image_explain.specs.declared.item.Active.TheVariants.{LogicCell, Function, Buffer, Routing, Unknown}
use Rattle.fabric_model.specs.On.{are_set, is_link_on}
use Rattle.fabric_model.specs.Cells.{bits_of_line, cell_bits, cell_places, flags_of, is_used, lut_of}
use Rattle.image_explain.specs.Cells.{places_of_cells}

-- ---- cells

-- a logic cell that has a set bit
abbrev pub cell_item : ℕ → List Bool → List Active
cell_item i bits = if is_used bits then LogicCell i (lut_of bits) (flags_of bits) ∷ [] else []

-- the logic cells of a tile; only logic tiles have some
unfoldable pub cell_items : Database → Configuration → ℕ → ℕ → TileKind → List Active
cell_items database image x y Logic = gathered_below 8 (λ i. cell_item i (cell_bits database image x y i))
cell_items database image x y kind = []

-- ---- functions and links that are on, by their indexes in the lists

abbrev pub is_place : ℕ → Option ℕ → Bool
is_place place None = false
is_place place (Some other) = other == place

-- a function of the tile's kind that is on and isn't a logic cell
abbrev pub is_other_on : Configuration → ℕ → ℕ → TileKind → List FunctionLine → ℕ → FunctionLine → Bool
is_other_on image x y kind functions place function =
    is_same_kind function.kind kind && (are_set image x y function.bits && not (list_any (is_place place) (places_of_cells functions)))

abbrev pub function_here : Configuration → ℕ → ℕ → TileKind → List FunctionLine → ℕ → Option FunctionLine → List ℕ
function_here image x y kind functions place None = []
function_here image x y kind functions place (Some function) = if is_other_on image x y kind functions place function then place ∷ [] else []

unfoldable pub on_functions : Configuration → ℕ → ℕ → TileKind → List FunctionLine → List ℕ
on_functions image x y kind functions = gathered_below (length functions) (λ place. function_here image x y kind functions place (slice_get functions place))

-- a link in the tile that is on
abbrev pub is_on_at : Configuration → ℕ → ℕ → Link → Bool
is_on_at image x y link = (link.x == x) && ((link.y == y) && is_link_on image link)

abbrev pub link_here : Configuration → ℕ → ℕ → ℕ → Option Link → List ℕ
link_here image x y place None = []
link_here image x y place (Some link) = if is_on_at image x y link then place ∷ [] else []

unfoldable pub on_links : Configuration → ℕ → ℕ → List Link → List ℕ
on_links image x y links = gathered_below (length links) (λ place. link_here image x y place (slice_get links place))

-- ---- bits that nothing explains

abbrev pub is_bit : ℕ → ℕ → RowCol → Bool
is_bit row col bit = (bit.row == row) && (bit.col == col)

-- a bit of a function
abbrev pub is_in_function : ℕ → ℕ → Option FunctionLine → Bool
is_in_function row col function = list_any (is_bit row col) (bits_of_line function)

-- whether a link needs this bit to be 1
abbrev pub is_one_of : ℕ → ℕ → List RowCol → List Bool → Bool
is_one_of row col [] values = false
is_one_of row col (bit ∷ bits) [] = false
is_one_of row col (bit ∷ bits) (value ∷ values) = (value && is_bit row col bit) || is_one_of row col bits values

abbrev pub is_one_in : ℕ → ℕ → Option Link → Bool
is_one_in row col None = false
is_one_in row col (Some link) = is_one_of row col link.bits link.values

abbrev pub is_in_cells : TileKind → Database → ℕ → ℕ → Bool
is_in_cells Logic database row col = any_below 8 (λ i. list_any (is_bit row col) (cell_places database i))
is_in_cells kind database row col = false

abbrev pub is_in_functions : Configuration → ℕ → ℕ → TileKind → List FunctionLine → ℕ → ℕ → Bool
is_in_functions image x y kind functions row col =
    list_any (λ place. is_in_function row col (slice_get functions place)) (on_functions image x y kind functions)

abbrev pub is_one_in_links : Configuration → ℕ → ℕ → List Link → ℕ → ℕ → Bool
is_one_in_links image x y links row col = list_any (λ place. is_one_in row col (slice_get links place)) (on_links image x y links)

-- a bit of a logic cell, or of a function that is on, or one that a link which is on needs to be 1
abbrev pub is_explained : Database → Configuration → ℕ → ℕ → TileKind → ℕ → ℕ → Bool
is_explained database image x y kind row col =
    is_in_cells kind database row col
    || is_in_functions image x y kind database.functions row col
    || is_one_in_links image x y database.buffers row col
    || is_one_in_links image x y database.routings row col

abbrev pub unknown_here : Configuration → ℕ → ℕ → (ℕ → ℕ → Bool) → ℕ → ℕ → List Active
unknown_here image x y is_known row col =
    if tile_bit_of image x y row col && not (is_known row col) then Unknown row col ∷ [] else []

abbrev pub unknown_in : Configuration → ℕ → ℕ → (ℕ → ℕ → Bool) → ℕ → ℕ → List Active
unknown_in image x y is_known width row = gathered_below width (unknown_here image x y is_known row)

-- all other set bits, row by row
unfoldable pub unknown_items : Configuration → ℕ → ℕ → (ℕ → ℕ → Bool) → ℕ → List Active
unknown_items image x y is_known width = gathered_below 16 (unknown_in image x y is_known width)

-- ---- the whole

abbrev pub items_of_tile : Database → Configuration → ℕ → ℕ → TileKind → List Active
items_of_tile database image x y kind =
    cell_items database image x y kind
    ++ map Function (on_functions image x y kind database.functions)
    ++ map Buffer (on_links image x y database.buffers)
    ++ map Routing (on_links image x y database.routings)
    ++ unknown_items image x y (is_explained database image x y kind) (columns_of kind)

abbrev pub items_in : Database → Configuration → ℕ → ℕ → Option TileKind → List Active
items_in database image x y None = []
items_in database image x y (Some kind) = items_of_tile database image x y kind

-- what the tile at (x, y) means: its logic cells, its other functions, its links, its other set bits
unfoldable pub items_at : Database → Configuration → ℕ → ℕ → List Active
items_at database image x y = items_in database image x y (kind_of image.layout.device x y)
