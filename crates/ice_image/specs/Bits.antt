-- The bits of an image: the bits of its tiles, the bits of the words of its RAMs, and its extra bits, which belong to no tile. An image
-- is given by them, its layout, its comment and its settings. Extra bits are the statement `.extra_bit` of Project IceStorm,
-- 'iCE40 ASCII format'.
use Rattle.std.specs.Prelude.{◌≡◌, ℕ, ◌/◌, ◌%◌, ◌^◌, ◌==◌, Bool, true, false, not, ◌&&◌, ◌||◌, List, [], ◌∷◌, map, if◌then◌else◌, Option, Some}
use Rattle.index_search.specs.Places.{any_below, gathered_below}
use Rattle.bit_plane.specs.BitList.{word_of}
use Rattle.bit_plane.specs.Rows.{Rows, row_from, rows_from}
use Rattle.plane_map.specs.Layout.{Layout, kind_of, grid_width, grid_height, columns_at, place_of, word_place_of, cram_width, cram_height, bram_width, bram_height, IsTileBit, IsWordBit}
use Rattle.plane_map.specs.declared.device.DeviceName.{DeviceName}
use Rattle.plane_map.specs.declared.tile.Place.{Place}
use Rattle.plane_map.specs.declared.tile.TileKind.{TileKind}
use Rattle.plane_map.specs.declared.tile.TileKind.TheVariants.{RamB}
use Rattle.plane_map.specs.declared.tile.RowCol.{RowCol}
use Rattle.plane_map.specs.declared.tile.TileBit.{TileBit}
use Rattle.plane_map.specs.declared.tile.WordBit.{WordBit}
use Rattle.ice_image.specs.Configuration.{Configuration, place_bit, IsWhole}
use Rattle.ice_image.specs.Contents.{tile_place, word_bit_place}
use Rattle.ice_image.specs.Owned.{is_same_place, is_owned, is_extra}
use Rattle.ice_image.specs.declared.settings.Settings.{Settings}

-- a bit of a tile, a bit of a word of a RAM, or a bit of the configuration planes that belongs to no tile
pub data Bit : Type 0 where
  OfTile : (bit : TileBit) → Bit
  OfWord : (bit : WordBit) → Bit
  Extra : (at : Place) → Bit

-- a bit that images of a layout have
abbrev pub IsBit : Layout → Bit → Type 0
IsBit layout (OfTile bit) = IsTileBit layout.device bit
IsBit layout (OfWord bit) = IsWordBit layout.device bit
IsBit layout (Extra at) = is_extra layout at ≡ true

-- a bit of an image
abbrev pub bit_of : Configuration → Bit → Bool
bit_of image (OfTile bit) = place_bit image.cram (place_of image.layout bit)
bit_of image (OfWord bit) = place_bit image.bram (word_place_of image.layout bit)
bit_of image (Extra at) = place_bit image.cram at

-- a bit of a tile, by the tile, its row and its column
abbrev pub tile_bit_of : Configuration → ℕ → ℕ → ℕ → ℕ → Bool
tile_bit_of image x y row col = bit_of image (OfTile (record { x = x; y = y; row = row; col = col }))

-- the bits of a row of a tile, column 0 first
abbrev pub row_of : Configuration → ℕ → ℕ → ℕ → List Bool
row_of image x y row = row_from (columns_at image.layout.device x y) (tile_bit_of image x y row)

-- the sixteen rows of a tile
abbrev pub tile_of : Configuration → ℕ → ℕ → Rows
tile_of image x y = rows_from (columns_at image.layout.device x y) 16 (λ col row. tile_bit_of image x y row col)

-- the bits of a tile at listed rows and columns
abbrev pub listed_bits : Configuration → ℕ → ℕ → List RowCol → List Bool
listed_bits image x y bits = map (λ bit. tile_bit_of image x y bit.row bit.col) bits

-- a bit of a word of a RAM, by the RAM and its word
abbrev pub word_bit_of : Configuration → ℕ → ℕ → ℕ → ℕ → Bool
word_bit_of image x y word bit = bit_of image (OfWord (record { x = x; y = y; word = word; bit = bit }))

-- a word of a RAM: its bit b is worth 2 ^ b
abbrev pub ram_word_of : Configuration → ℕ → ℕ → ℕ → ℕ
ram_word_of image x y word = word_of (row_from 16 (word_bit_of image x y word))

-- the place of an extra bit, if it is set
abbrev pub extra_if_set : Configuration → Place → List Place
extra_if_set image at = if bit_of image (Extra at) && not (is_owned image.layout at) then at ∷ [] else []

-- all set extra bits, by bank, then by row, then by column
unfoldable pub set_extras : Configuration → List Place
set_extras image =
    gathered_below 4 (λ bank. gathered_below (cram_height image.layout.device) (λ py. gathered_below (cram_width image.layout.device) (λ px.
    extra_if_set image (record { bank = bank; px = px; py = py }))))

-- an image with the same layout, comment and settings, in which only bits of that kind may have changed
pub record OnlyBits (IsChanged : Bit → Type 0) (before after : Configuration) : Type 0 where
  pub layout : after.layout ≡ before.layout
  pub comment : after.comment ≡ before.comment
  pub settings : after.settings ≡ before.settings
  pub whole : IsWhole after
  pub bits : (bit : Bit) → IsBit before.layout bit → ¬ IsChanged bit → bit_of after bit ≡ bit_of before bit

-- a bit has that value, and all other bits, the layout, the comment and the settings are as before
pub record IsSet (bit : Bit) (value : Bool) (before after : Configuration) : Type 0 where
  pub set : bit_of after bit ≡ value
  pub others : OnlyBits (λ other. other ≡ bit) before after

-- a bit of that word of a RAM
abbrev pub IsOfWord : ℕ → ℕ → ℕ → Bit → Type 0
IsOfWord x y word (OfWord bit) = (bit.x ≡ x) × (bit.y ≡ y) × (bit.word ≡ word)
IsOfWord x y word bit = ⊥

-- a word has that value, and all bits that aren't its own, the layout, the comment and the settings are as before
pub record IsWordSet (x y word value : ℕ) (before after : Configuration) : Type 0 where
  pub set : ram_word_of after x y word ≡ value
  pub others : OnlyBits (IsOfWord x y word) before after

-- a bit of that tile
abbrev pub IsOfTile : ℕ → ℕ → Bit → Type 0
IsOfTile x y (OfTile bit) = (bit.x ≡ x) × (bit.y ≡ y)
IsOfTile x y bit = ⊥

-- a tile has those rows, and all bits that aren't its own, the layout, the comment and the settings are as before
pub record IsTileSet (x y : ℕ) (tile : Rows) (before after : Configuration) : Type 0 where
  pub set : tile_of after x y ≡ tile
  pub others : OnlyBits (IsOfTile x y) before after

-- the layout, the comment and the settings are as before, and a bit is 1 exactly if it was 1 before or the test passes
pub record Gains (is_set : Bit → Bool) (before after : Configuration) : Type 0 where
  pub layout : after.layout ≡ before.layout
  pub comment : after.comment ≡ before.comment
  pub settings : after.settings ≡ before.settings
  pub whole : IsWhole after
  pub bits : (bit : Bit) → IsBit before.layout bit → bit_of after bit ≡ (bit_of before bit || is_set bit)

-- a bit of a number, bit b being worth 2 ^ b
abbrev pub number_bit : ℕ → ℕ → Bool
number_bit number bit = number / 2 ^ bit % 2 == 1

-- whether a number is 1 at a bit of a row of a tile
abbrev pub row_ones : ℕ → ℕ → ℕ → ℕ → Bit → Bool
row_ones x y row ones (OfTile bit) = (x == bit.x) && (y == bit.y) && (row == bit.row) && number_bit ones bit.col
row_ones x y row ones bit = false

-- whether a number is 1 at a bit of a word of a RAM
abbrev pub word_ones : ℕ → ℕ → ℕ → ℕ → Bit → Bool
word_ones x y word ones (OfWord bit) = (x == bit.x) && (y == bit.y) && (word == bit.word) && number_bit ones bit.bit
word_ones x y word ones bit = false

-- ---- the image that has given bits

-- a bit of the configuration planes: the bit of the tile that has the place, or else the extra bit
abbrev pub cram_bit_from : Layout → (Bit → Bool) → Place → Bool
cram_bit_from layout bits at =
    if is_owned layout at then
    any_below (grid_width layout.device) (λ x. any_below (grid_height layout.device) (λ y. any_below 16 (λ row. any_below (columns_at layout.device x y) (λ col.
    is_same_place (tile_place layout x y row col) at && bits (OfTile (record { x = x; y = y; row = row; col = col }))))))
    else bits (Extra at)

-- whether the tile at a place of the grid is a RAM's lower one
abbrev pub is_lower_kind : Option TileKind → Bool
is_lower_kind (Some RamB) = true
is_lower_kind kind = false

abbrev pub is_lower : DeviceName → ℕ → ℕ → Bool
is_lower device x y = is_lower_kind (kind_of device x y)

-- a bit of the RAM planes: the bit of the word that has the place
abbrev pub bram_bit_from : Layout → (Bit → Bool) → Place → Bool
bram_bit_from layout bits at =
    any_below (grid_width layout.device) (λ x. any_below (grid_height layout.device) (λ y. any_below 256 (λ word. any_below 16 (λ bit.
    is_lower layout.device x y && is_same_place (word_bit_place layout x y word bit) at && bits (OfWord (record { x = x; y = y; word = word; bit = bit }))))))

-- four planes of that size with those bits
abbrev pub plane_from : ℕ → ℕ → (Place → Bool) → ℕ → Rows
plane_from width height bits bank = rows_from width height (λ px py. bits (record { bank = bank; px = px; py = py }))

abbrev pub planes_from : ℕ → ℕ → (Place → Bool) → List Rows
planes_from width height bits =
    plane_from width height bits 0 ∷ plane_from width height bits 1 ∷ plane_from width height bits 2 ∷ plane_from width height bits 3 ∷ []

-- the image of a layout with that comment, those settings and those bits
unfoldable pub image_from : Layout → Option (List (List ℕ)) → Settings → (Bit → Bool) → Configuration
image_from layout comment settings bits = record {
  layout = layout;
  comment = comment;
  settings = settings;
  cram = planes_from (cram_width layout.device) (cram_height layout.device) (cram_bit_from layout bits);
  bram = planes_from (bram_width layout.device) (bram_height layout.device) (bram_bit_from layout bits);
}
