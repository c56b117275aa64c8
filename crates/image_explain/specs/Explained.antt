-- The text that explains a configuration by the names of a database, as one list of lines.
use Rattle.std.specs.Prelude.{◌≡◌, ℕ, Bool, ◌&&◌, ◌==◌, List, [], ◌∷◌, ◌++◌, map, codes, decimal, find, slice_get, if◌then◌else◌, Option, None, Some}
use Rattle.index_search.specs.Places.{any_below, gathered_below}
use Rattle.text_lines.specs.Written.{text_of}
use Rattle.bit_plane.specs.BitList.{word_bits}
use Rattle.plane_map.specs.Layout.{kind_of, columns_of, grid_width, grid_height}
use Rattle.plane_map.specs.declared.device.DeviceName.{DeviceName}
use Rattle.plane_map.specs.declared.tile.TileKind.{TileKind}
use Rattle.plane_map.specs.declared.tile.Place.{Place}
use Rattle.ice_image.specs.Bits.{tile_bit_of}
use Rattle.ice_image.specs.Configuration.{Configuration}
use Rattle.asc_text.specs.declared.fault.TileXy.{TileXy}
use Rattle.plane_map.specs.DeviceWords.{device_word}
use Rattle.asc_text.specs.Statements.{device_keyword, tile_keyword}
use Rattle.asc_text.specs.Canonical.{grid_line, row_line, with_word}
use Rattle.ice_image.specs.Bits.{set_extras}
use Rattle.ice_image.specs.Owned.{is_same_place}
use Rattle.chipdb_lines.specs.Items.{ExtraLine, FunctionLine, NameLine}
use Rattle.chipdb_reader.specs.Database.{Database, Link}
use Rattle.chipdb_reader.specs.Lookups.{names_of_net}
use Rattle.image_explain.specs.declared.item.Active.{Active}
use Rattle.image_explain.specs.declared.item.Active.TheVariants.{LogicCell, Function, Buffer, Routing, Unknown}
use Rattle.image_explain.specs.declared.fault.ExplainFault.{ExplainFault}
use Rattle.image_explain.specs.declared.fault.ExplainFault.TheVariants.{Device, NoTile, Memory}
use Rattle.fabric_model.specs.Cells.{cell_name}
use Rattle.plane_map.specs.Devices.{is_same_device}
use Rattle.image_explain.specs.Items.{items_of_tile}

-- ---- nets

abbrev pub is_at : ℕ → ℕ → NameLine → Bool
is_at x y line = (line.x == x) && (line.y == y)

-- a name, or `#` and the number of the net
abbrev pub name_or_number : ℕ → Option NameLine → List ℕ
name_or_number net None = 35 ∷ decimal net
name_or_number net (Some line) = line.name

-- A net is written as its first name in the tile.
unfoldable pub net_text : List NameLine → ℕ → ℕ → ℕ → List ℕ
net_text names x y net = name_or_number net (find (is_at x y) (names_of_net net names))

-- ---- lines of a tile

-- `LC_i`, the entries of the LUT, entry 0 first, and the four flags
abbrev pub cell_line : ℕ → ℕ → ℕ → List ℕ
cell_line i lut flags = with_word (with_word (cell_name i) (row_line (word_bits 16 lut))) (row_line (word_bits 4 flags))

abbrev pub function_line : Option FunctionLine → List ℕ
function_line None = []
function_line (Some function) = function.name

-- a word, the source net and the driven net
abbrev pub link_line : List NameLine → List ℕ → ℕ → ℕ → Option Link → List ℕ
link_line names word x y None = word
link_line names word x y (Some link) = with_word (with_word word (net_text names x y link.src)) (net_text names x y link.dst)

-- `? B<row>[<column>]`
abbrev pub unknown_line : ℕ → ℕ → List ℕ
unknown_line row col = codes "? B" ++ decimal row ++ 91 ∷ decimal col ++ 93 ∷ []

abbrev pub item_line : Database → ℕ → ℕ → Active → List ℕ
item_line database x y (LogicCell i lut flags) = cell_line i lut flags
item_line database x y (Function place) = function_line (slice_get database.functions place)
item_line database x y (Buffer place) = link_line database.names (codes "buffer") x y (slice_get database.buffers place)
item_line database x y (Routing place) = link_line database.names (codes "routing") x y (slice_get database.routings place)
item_line database x y (Unknown row col) = unknown_line row col

-- a line for each item of a tile
abbrev pub item_lines : Database → Configuration → ℕ → ℕ → TileKind → List (List ℕ)
item_lines database image x y kind = map (item_line database x y) (items_of_tile database image x y kind)

-- a tile: its statement, and the lines of its items
unfoldable pub tile_lines : Database → Configuration → ℕ → ℕ → TileKind → List (List ℕ)
tile_lines database image x y kind = grid_line (tile_keyword kind) x y ∷ item_lines database image x y kind

-- ---- all tiles

-- whether a tile has a set bit
unfoldable pub is_set_tile : Configuration → ℕ → ℕ → TileKind → Bool
is_set_tile image x y kind = any_below 16 (λ row. any_below (columns_of kind) (λ col. tile_bit_of image x y row col))

-- the tile at (x, y), if it has a set bit
abbrev pub set_tile_lines : Database → Configuration → ℕ → ℕ → Option TileKind → List (List ℕ)
set_tile_lines database image x y None = []
set_tile_lines database image x y (Some kind) = if is_set_tile image x y kind then tile_lines database image x y kind else []

-- all tiles with a set bit, row by row of the grid
abbrev pub all_tile_lines : Database → Configuration → List (List ℕ)
all_tile_lines database image =
    gathered_below (grid_height image.layout.device) (λ y. gathered_below (grid_width image.layout.device) (λ x.
    set_tile_lines database image x y (kind_of image.layout.device x y)))

-- ---- extra bits

-- a name, or `? BANK X Y`
abbrev pub name_or_place : Place → Option ExtraLine → List ℕ
name_or_place at None = with_word (with_word (with_word (codes "?") (decimal at.bank)) (decimal at.px)) (decimal at.py)
name_or_place at (Some line) = line.name

-- An extra bit is written as the first name that the database gives for its place.
unfoldable pub extra_text : List ExtraLine → Place → List ℕ
extra_text extras at = name_or_place at (find (λ line. is_same_place line.at at) extras)

abbrev pub extra_lines : List ExtraLine → List Place → List (List ℕ)
extra_lines extras [] = []
extra_lines extras (place ∷ places) = codes ".extra_bits" ∷ map (extra_text extras) (place ∷ places)

-- ---- the whole

abbrev pub lines_of_kind : Database → Configuration → ℕ → ℕ → Option TileKind → List (List ℕ)
lines_of_kind database image x y None = []
lines_of_kind database image x y (Some kind) = tile_lines database image x y kind

-- one tile, or all tiles with a set bit and then the extra bits
abbrev pub lines_after : Database → Configuration → Option TileXy → List (List ℕ)
lines_after database image None = all_tile_lines database image ++ extra_lines database.extras (set_extras image)
lines_after database image (Some only) = lines_of_kind database image only.x only.y (kind_of image.layout.device only.x only.y)

-- the whole text
unfoldable pub explained : Database → Configuration → Option TileXy → List ℕ
explained database image only = text_of (with_word device_keyword (device_word image.layout.device) ∷ lines_after database image only)

-- ---- refusals

-- the fault if there is no such tile
abbrev pub tile_fault : ℕ → ℕ → Option TileKind → Option ExplainFault
tile_fault x y None = Some (NoTile x y)
tile_fault x y (Some kind) = None

abbrev pub only_fault : DeviceName → Option TileXy → Option ExplainFault
only_fault device None = None
only_fault device (Some only) = tile_fault only.x only.y (kind_of device only.x only.y)

-- why an image is not explained: the database is for another device, or there is no such tile
unfoldable pub explain_fault_of : Database → Configuration → Option TileXy → Option ExplainFault
explain_fault_of database image only =
    if is_same_device database.chip.device image.layout.device then only_fault image.layout.device only else Some Device

-- the reported fault is that one; out of memory may come in place of any answer
abbrev pub Tells : Option ExplainFault → ExplainFault → Type 0
Tells fault (Memory e) = Unit {0}
Tells fault Device = fault ≡ Some Device
Tells fault (NoTile x y) = fault ≡ Some (NoTile x y)
