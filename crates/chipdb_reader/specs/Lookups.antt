-- What look-ups find in the lists of a database.
use Rattle.std.specs.Prelude.{ℕ, Bool, ◌&&◌, List, find, filter, position, bytes_eq, ◌==◌, Option}
use Rattle.std.specs.Option.{option_map}
use Rattle.plane_map.specs.declared.tile.TileKind.{TileKind}
use Rattle.plane_map.specs.declared.tile.Place.{Place}
use Rattle.chipdb_lines.specs.declared.globals.GlobalInput.{GlobalInput}
use Rattle.chipdb_lines.specs.declared.globals.GlobalPin.{GlobalPin}
use Rattle.chipdb_lines.specs.Items.{NameLine, FunctionLine, ExtraLine}
use Rattle.chipdb_lines.specs.Statements.{is_same_kind}
use Rattle.chipdb_reader.specs.declared.items.TileXy8.{TileXy8}
use Rattle.chipdb_reader.specs.declared.items.PinXy.{PinXy}

-- whether a line gives that name in the tile at (x, y)
abbrev pub is_name_at : ℕ → ℕ → List ℕ → NameLine → Bool
is_name_at x y name line = (line.x == x) && ((line.y == y) && bytes_eq name line.name)

-- the net of the first line that gives that name there
unfoldable pub net_at : ℕ → ℕ → List ℕ → List NameLine → Option ℕ
net_at x y name lines = option_map (λ line. line.net) (find (is_name_at x y name) lines)

-- the names of a net
unfoldable pub names_of_net : ℕ → List NameLine → List NameLine
names_of_net net lines = filter (λ line. line.net == net) lines

-- whether a function has that kind and name
abbrev pub is_function : TileKind → List ℕ → FunctionLine → Bool
is_function kind name line = is_same_kind line.kind kind && bytes_eq name line.name

-- the index of the first function with that kind and name
unfoldable pub function_place : TileKind → List ℕ → List FunctionLine → Option ℕ
function_place kind name lines = position (is_function kind name) lines

-- the place of the first extra bit with that name
unfoldable pub extra_place : List ℕ → List ExtraLine → Option Place
extra_place name lines = option_map (λ line. line.at) (find (λ line. bytes_eq name line.name) lines)

abbrev pub tile_of : GlobalInput → TileXy8
tile_of input = record { x = input.x; y = input.y }

abbrev pub pin_of : GlobalPin → PinXy
pin_of pin = record { x = pin.x; y = pin.y; n = pin.pad }

-- the tile of the first line for a global net
unfoldable pub input_of : ℕ → List GlobalInput → Option TileXy8
input_of g inputs = option_map tile_of (find (λ input. input.global == g) inputs)

-- the pad of the first line for a global net
unfoldable pub pad_of : ℕ → List GlobalPin → Option PinXy
pad_of g pins = option_map pin_of (find (λ pin. pin.global == g) pins)
