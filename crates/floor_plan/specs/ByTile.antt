-- What is kept by tiles: 64 rows of 64 tiles, more than any device has. Only contracts within this crate use this.
use Rattle.std.specs.Prelude.{◌≡◌, ℕ, ◌+◌, ◌*◌, ◌<◌, Bool, ◌&&◌, ◌==◌, false, List, [], ◌∷◌, get_or, set, length, map, count_by, nat_lt, slice_get, Option, None, Some}
use Rattle.std.specs.declared.vec.Vec.{Vec}
use Rattle.plane_map.specs.Layout.{kind_of}
use Rattle.plane_map.specs.declared.device.DeviceName.{DeviceName}
use Rattle.plane_map.specs.declared.tile.TileKind.{TileKind}
use Rattle.chipdb_reader.specs.declared.items.LinkLine.{LinkLine}
use Rattle.fabric_model.specs.Links.{LinkSet, is_read_in}
use Rattle.fabric_model.specs.Tiles.{over_grid}
use Rattle.plan_marks.specs.declared.plan.Mark.{Mark}
use Rattle.plan_marks.specs.Plans.{TilePlan}
use Rattle.floor_plan.specs.Plans.{marks_at}

-- the index of a tile
abbrev pub index_of : ℕ → ℕ → ℕ
index_of x y = 64 * y + x

-- a place that is among these tiles
abbrev pub IsNear : Mark → Type 0
IsNear mark = (mark.x < 64) × (mark.y < 64)

-- the contents of vectors as lists
abbrev pub lists_of : {Z : Type 0} → List (Vec Mark Z) → List (List Mark)
lists_of lists = map (λ marks. marks.items) lists

-- there is one list for each tile, with the marks at its place
pub record AreByTile (marks : List Mark) (lists : List (List Mark)) : Type 0 where
  pub all : length lists ≡ 4096
  pub each : (x y : ℕ) → x < 64 → y < 64 → get_or lists (index_of x y) [] ≡ marks_at x y marks

-- ---- links

-- whether a link of a list is in the tile at (x, y)
abbrev pub is_in : ℕ → ℕ → Option LinkLine → Bool
is_in x y None = false
is_in x y (Some link) = (link.x == x) && (link.y == y)

-- whether the link with an index is
abbrev pub is_index_in : List LinkLine → ℕ → ℕ → ℕ → Bool
is_index_in links x y place = is_in x y (slice_get links place)

-- one more in the count of a link's tile
abbrev pub raised : Option LinkLine → List ℕ → List ℕ
raised None counts = counts
raised (Some link) counts = set counts (index_of link.x link.y) (get_or counts (index_of link.x link.y) 0 + 1)

-- a link whose tile is among these
abbrev pub IsLinkNear : LinkLine → Type 0
IsLinkNear link = (link.x < 64) × (link.y < 64)

-- the counts were raised by the links with these indexes, each in its tile
pub record Raises (links : List LinkLine) (places : List ℕ) (before after : List ℕ) : Type 0 where
  pub all : length after ≡ 4096
  pub each : (x y : ℕ) → x < 64 → y < 64 → get_or after (index_of x y) 0 ≡ get_or before (index_of x y) 0 + count_by (is_index_in links x y) places

-- the counts of the buffers and the routings that are on, each in its tile
pub record CountsLinks (buffers routings : List LinkLine) (links : LinkSet) (counts : List ℕ) : Type 0 where
  pub all : length counts ≡ 4096
  pub each : (x y : ℕ) → x < 64 → y < 64 → get_or counts (index_of x y) 0
      ≡ count_by (is_index_in buffers x y) links.buffers + count_by (is_index_in routings x y) links.routings

-- ---- tiles

-- the tile at a place of the grid, by what is kept, if there is one
abbrev pub tile_by : List (List Mark) → List ℕ → ℕ → ℕ → Option TileKind → List TilePlan
tile_by lists counts x y None = []
tile_by lists counts x y (Some kind) =
    record { x = x; y = y; kind = kind; links = get_or counts (index_of x y) 0; marks = get_or lists (index_of x y) [] } ∷ []

-- all tiles of a device
unfoldable pub tiles_by : DeviceName → List (List Mark) → List ℕ → List TilePlan
tiles_by device lists counts = over_grid device (λ x y. tile_by lists counts x y (kind_of device x y))

-- ---- nets

-- whether a net is read, by what is kept of links; false if there is no such net
abbrev pub reads_in : LinkSet → ℕ → Bool
reads_in links net = nat_lt net (length links.classes) && is_read_in links net
