-- What holds in the middle of a loop: bits that are written one after the other, and set extra bits that are found place by
-- place. Only contracts within this crate cite this.
use Rattle.std.specs.Prelude.{◌≡◌, ℕ, ◌+◌, ◌<◌, ◌⊎◌, ◌↔◌, Bool, true, false, not, ◌&&◌, ◌||◌, if◌then◌else◌, List, [], ◌∷◌, ◌++◌, get_or, Contains, AllPairs}
use Rattle.index_search.specs.Places.{gathered_below}
use Rattle.bit_plane.specs.BitList.{word_bits}
use Rattle.bit_plane.specs.Rows.{Rows, IsGrid, bit_at}
use Rattle.plane_map.specs.Layout.{Layout}
use Rattle.plane_map.specs.declared.tile.Place.{Place}
use Rattle.ice_image.specs.Bits.{number_bit}
use Rattle.ice_image.specs.Configuration.{place_bit, SameBut}
use Rattle.ice_image.specs.Contents.{tile_place}
use Rattle.ice_image.specs.Extras.{IsBefore, IsSetExtra}
use Rattle.ice_image.specs.Owned.{is_owned}

-- one of the low bits of a word
abbrev pub bit_of_word : ℕ → ℕ → ℕ → Bool
bit_of_word count word k = get_or (word_bits count word) k false

-- the bit at a place, or 1 if that bit of a number is 1
abbrev pub gained_bit : (ℕ → Place) → List Rows → ℕ → ℕ → Bool
gained_bit places planes ones k = place_bit planes (places k) || number_bit ones k

-- one of the first places of a list that is given by its items
abbrev pub IsAmong : (ℕ → Place) → ℕ → Place → Type 0
IsAmong places count at = (k : ℕ) × (k < count) × (places k ≡ at)

-- those places have these bits, and all others are as before
pub record IsWritten (places : ℕ → Place) (bits : ℕ → Bool) (count : ℕ) (before after : List Rows) : Type 0 where
  pub written : (k : ℕ) → k < count → place_bit after (places k) ≡ bits k
  pub others : SameBut (IsAmong places count) before after

-- `spread` has bit k of `ones` at place `places k`, for each k below `count`, and is 0 at all other places below `bound`
pub record IsSpread (places : ℕ → ℕ) (count bound ones spread : ℕ) : Type 0 where
  pub set : (k : ℕ) → k < count → number_bit ones k ≡ true → number_bit spread (places k) ≡ true
  pub only : (place : ℕ) → place < bound → number_bit spread place ≡ true → (k : ℕ) × (k < count) × (places k ≡ place) × (number_bit ones k ≡ true)

-- a place of a bit in one of a tile's first rows
abbrev pub IsInRows : Layout → ℕ → ℕ → ℕ → ℕ → Place → Type 0
IsInRows layout x y width count at =
    (row : ℕ) × (col : ℕ) × (row < count) × (col < width) × (tile_place layout x y row col ≡ at)

-- the first rows of a tile have the bits of another tile's, and all others are as before
pub record AreRowsWritten (layout : Layout) (x y width : ℕ) (tile : Rows) (count : ℕ) (before after : List Rows) : Type 0 where
  pub written : (row col : ℕ) → row < count → col < width → place_bit after (tile_place layout x y row col) ≡ bit_at tile col row
  pub others : SameBut (IsInRows layout x y width count) before after
  pub shape : 0 < count → IsGrid width 16 tile

-- the set extra bits before a place, each once, in order
pub record HasExtras (layout : Layout) (cram : List Rows) (limit : Place) (places : List Place) : Type 0 where
  pub ordered : AllPairs IsBefore places
  pub exact : (at : Place) → Contains places at ↔ (IsBefore at limit × IsSetExtra layout cram at)

-- a place is appended if it is that of a set extra bit
abbrev pub IsExtraAppended : Layout → List Rows → Place → List Place → List Place → Type 0
IsExtraAppended layout cram at before after =
    (IsSetExtra layout cram at × (after ≡ before ++ at ∷ [])) ⊎ ((¬ IsSetExtra layout cram at) × (after ≡ before))

-- whether a bit is set and belongs to no tile
abbrev pub is_set_extra : Layout → List Rows → Place → Bool
is_set_extra layout cram at = place_bit cram at && not (is_owned layout at)

-- the places of the bits that are set in a number, from a column of a row on
abbrev pub free_places : ℕ → ℕ → ℕ → ℕ → ℕ → List Place
free_places bank px py free count = gathered_below count (λ k. if number_bit free k then record { bank = bank; px = px + k; py = py } ∷ [] else [])

-- ---- the places of tiles, marked in planes

-- only places that belong to tiles are set
abbrev pub AreMarks : Layout → List Rows → Type 0
AreMarks layout owned = (at : Place) → place_bit owned at ≡ true → is_owned layout at ≡ true

-- what was set is still set
abbrev pub AreKept : List Rows → List Rows → Type 0
AreKept before after = (at : Place) → place_bit before at ≡ true → place_bit after at ≡ true

-- each place of a row that belongs to a tile is set
abbrev pub IsMarked : Layout → List Rows → ℕ → ℕ → Type 0
IsMarked layout owned bank py =
    (px : ℕ) → is_owned layout (record { bank = bank; px = px; py = py }) ≡ true → place_bit owned (record { bank = bank; px = px; py = py }) ≡ true

-- only such places are set, and in the first banks all of them in row 0, which lies in an end row of tiles, and in row 16
pub record AreMarked (layout : Layout) (count : ℕ) (owned : List Rows) : Type 0 where
  pub marks : AreMarks layout owned
  pub ends : (bank : ℕ) → bank < count → IsMarked layout owned bank 0
  pub inner : (bank : ℕ) → bank < count → IsMarked layout owned bank 16
