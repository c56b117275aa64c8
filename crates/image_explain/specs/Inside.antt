-- What holds in the course of explaining. Contracts of other crates use `lists_of` alone.
use Rattle.std.specs.Prelude.{◌≡◌, ℕ, ◌+◌, ◌*◌, ◌<◌, Bool, true, false, ◌||◌, List, [], ◌∷◌, ◌++◌, get_or, length, map, set, slice_get, Some}
use Rattle.std.specs.declared.vec.Vec.{Vec}
use Rattle.index_search.specs.Places.{gathered_below}
use Rattle.bit_plane.specs.Rows.{Rows, IsGrid, bit_at}
use Rattle.plane_map.specs.Layout.{kind_of}
use Rattle.plane_map.specs.declared.device.DeviceName.{DeviceName}
use Rattle.ice_image.specs.Configuration.{Configuration}
use Rattle.chipdb_reader.specs.Database.{Link}
use Rattle.image_explain.specs.declared.tile.TileAt.{TileAt}
use Rattle.image_explain.specs.Items.{link_here}

-- the tile is there, and it is of that kind
abbrev pub IsTileAt : DeviceName → TileAt → Type 0
IsTileAt device at = kind_of device at.x at.y ≡ Some at.kind

-- on a board of 16 rows of 54 bits, the bits at which a test passes were set, and all others stay as they were
pub record Adds (test : ℕ → ℕ → Bool) (before after : Rows) : Type 0 where
  pub grid : IsGrid 54 16 after
  pub bits : (row col : ℕ) → row < 16 → col < 54 → bit_at after col row ≡ (bit_at before col row || test row col)

-- exactly the bits of the board at which a test passes are set
pub record Knows (test : ℕ → ℕ → Bool) (board : Rows) : Type 0 where
  pub grid : IsGrid 54 16 board
  pub bits : (row col : ℕ) → row < 16 → col < 54 → bit_at board col row ≡ test row col

-- the contents of vectors as lists
abbrev pub lists_of : {Z : Type 0} → List (Vec ℕ Z) → List (List ℕ)
lists_of lists = map (λ places. places.items) lists

-- an index was added to one of the lists, if the flag is set
abbrev pub with_place : Bool → ℕ → ℕ → List (List ℕ) → List (List ℕ)
with_place true at place lists = set lists at (get_or lists at [] ++ place ∷ [])
with_place false at place lists = lists

-- there is one list for each tile, with the indexes of the links that are on there, among the first `count` links
pub record AreLists (image : Configuration) (links : List Link) (count : ℕ) (lists : List (List ℕ)) : Type 0 where
  pub all : length lists ≡ 4096
  pub places : (x y : ℕ) → x < 64 → y < 64 → get_or lists (64 * y + x) [] ≡ gathered_below count (λ place. link_here image x y place (slice_get links place))
