-- What an image sets at a tile: functions and links of a database, and its extra bits (Project IceStorm, 'icebox chip database').
use Rattle.std.specs.Prelude.{ℕ, Bool, false, ◌&&◌, List, find, nat_eq, Option, Some, None}
use Rattle.std.specs.Bool.{beq}
use Rattle.std.specs.List.{list_any, list_all, starts_with}
use Rattle.std.specs.Cmp.Lexicographic.{pointwise}
use Rattle.plane_map.specs.declared.tile.TileKind.{TileKind}
use Rattle.plane_map.specs.declared.tile.RowCol.{RowCol}
use Rattle.plane_map.specs.declared.tile.Place.{Place}
use Rattle.ice_image.specs.Configuration.{Configuration, place_bit}
use Rattle.ice_image.specs.Bits.{listed_bits}
use Rattle.chipdb_lines.specs.Items.{FunctionLine}
use Rattle.chipdb_lines.specs.Statements.{is_same_kind}
use Rattle.chipdb_reader.specs.Database.{Database, Link}
use Rattle.chipdb_reader.specs.Lookups.{is_function, extra_place}

-- the bits of the tile at (x, y) at these rows and columns
abbrev pub bits_at : Configuration → ℕ → ℕ → List RowCol → List Bool
bits_at image x y bits = listed_bits image x y bits

-- a function is on at a tile if all its bits are 1 there
unfoldable pub are_set : Configuration → ℕ → ℕ → List RowCol → Bool
are_set image x y bits = list_all (λ bit. bit) (bits_at image x y bits)

-- a link is on if each of its bits has the value that the link gives it
unfoldable pub is_link_on : Configuration → Link → Bool
is_link_on image link = pointwise beq (bits_at image link.x link.y link.bits) link.values

-- ---- functions by their names

-- a function that is looked up by its whole name is the first of its kind and name
abbrev pub function_named : Database → TileKind → List ℕ → Option FunctionLine
function_named db kind name = find (is_function kind name) db.functions

-- a function that is missing is on nowhere
abbrev pub is_on : Configuration → ℕ → ℕ → Option FunctionLine → Bool
is_on image x y None = false
is_on image x y (Some function) = are_set image x y function.bits

-- whether the function of that kind and name is on at (x, y)
unfoldable pub is_function_on : Database → Configuration → TileKind → ℕ → ℕ → List ℕ → Bool
is_function_on db image kind x y name = is_on image x y (function_named db kind name)

-- a function that is looked up by the start of its name is any line of its kind whose name starts so
abbrev pub begins_with : TileKind → List ℕ → FunctionLine → Bool
begins_with kind beginning function = is_same_kind function.kind kind && starts_with nat_eq function.name beginning

-- whether a function of that kind whose name starts with `beginning` is on at (x, y)
unfoldable pub is_any_on : Database → Configuration → TileKind → ℕ → ℕ → List ℕ → Bool
is_any_on db image kind x y beginning =
    list_any (λ function. begins_with kind beginning function && are_set image x y function.bits) db.functions

-- ---- extra bits

abbrev pub is_place_set : Configuration → Option Place → Bool
is_place_set image None = false
is_place_set image (Some at) = place_bit image.cram at

-- whether the first extra bit of that name is set
unfoldable pub is_extra_on : Database → Configuration → List ℕ → Bool
is_extra_on db image name = is_place_set image (extra_place name db.extras)
