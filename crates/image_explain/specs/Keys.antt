-- What look-ups by place or tile find. Only contracts within this crate use this.
use Rattle.std.specs.Prelude.{◌≡◌, ℕ, Bool, ◌&&◌, ◌==◌, List, find, Some}
use Rattle.std.specs.Option.{option_map}
use Rattle.std.specs.declared.cmp.Ordering.{Ordering}
use Rattle.std.specs.Ordering.{nat_cmp}
use Rattle.std.specs.BTreeMap.{BTreeMap, get}
use Rattle.plane_map.specs.declared.tile.Place.{Place}
use Rattle.ice_image.specs.Owned.{is_same_place}
use Rattle.chipdb_reader.specs.declared.items.Extra.{Extra}
use Rattle.chipdb_reader.specs.declared.items.NetName.{NetName}
use Rattle.chipdb_reader.specs.Kept.{Kept, database_in}
use Rattle.chipdb_reader.specs.Lookups.{names_of_net}
use Rattle.chipdb_reader.specs.Texts.{text_at}
use Rattle.image_explain.specs.declared.keys.PlaceKey.{PlaceKey}
use Rattle.image_explain.specs.declared.keys.TileKey.{TileKey}
use Rattle.image_explain.specs.contracts.keys.PlaceKeyOrd.TheImpl as place_key_ord
use Rattle.image_explain.specs.contracts.keys.TileKeyOrd.TheImpl as tile_key_ord
use Rattle.image_explain.specs.Explained.{is_at}

-- ---- extra bits

-- the order of places
abbrev pub place_cmp : PlaceKey → PlaceKey → Ordering
place_cmp = (place_key_ord.ghosts).cmp

abbrev pub place_key : Place → PlaceKey
place_key at = record { bank = at.bank; px = at.px; py = at.py }

-- for each place the first extra bit there is found
abbrev pub FindsExtras : BTreeMap PlaceKey Extra → List Extra → Type 0
FindsExtras firsts extras = (at : Place) → get place_cmp firsts (place_key at) ≡ find (λ extra. is_same_place extra.at at) extras

-- ---- names of nets

-- the order of tiles
abbrev pub tile_cmp : TileKey → TileKey → Ordering
tile_cmp = (tile_key_ord.ghosts).cmp

abbrev pub tile_key : ℕ → ℕ → TileKey
tile_key x y = record { x = x; y = y }

abbrev pub is_name_in : ℕ → ℕ → NetName → Bool
is_name_in x y name = (name.x == x) && (name.y == y)

-- for each tile the first name there is found
abbrev pub FindsNames : BTreeMap TileKey NetName → List NetName → Type 0
FindsNames firsts names = (x y : ℕ) → get tile_cmp firsts (tile_key x y) ≡ find (is_name_in x y) names

-- for each tile the first name that a net has there is found, with its bytes
abbrev pub FindsNet : Kept → ℕ → BTreeMap TileKey NetName → Type 0
FindsNet kept net firsts = (x y : ℕ) → option_map (λ name. text_at kept.texts name.name) (get tile_cmp firsts (tile_key x y)) ≡ option_map (λ line. line.name) (find (is_at x y) (names_of_net net (database_in kept).names))

-- for each net in the map, the first name that it has in each tile is found
abbrev pub FindsNets : Kept → BTreeMap ℕ (BTreeMap TileKey NetName) → Type 0
FindsNets kept nets = (net : ℕ) (firsts : BTreeMap TileKey NetName) → get nat_cmp nets net ≡ Some firsts → FindsNet kept net firsts
