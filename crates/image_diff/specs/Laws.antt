-- What holds of the differences of two configurations.
use Rattle.std.specs.Prelude.{◌≡◌, ◌≢◌, ◌↔◌, ◌⊎◌, ℕ, ◌<◌, true, List, [], ◌∷◌, ◌++◌, map, codes, Contains, Option, None, Some}
use Rattle.index_search.specs.Places.{gathered_below}
use Rattle.text_lines.specs.Written.{text_of}
use Rattle.plane_map.specs.Layout.{columns_at, grid_width, grid_height, kind_of}
use Rattle.plane_map.specs.declared.tile.Place.{Place}
use Rattle.plane_map.specs.declared.tile.TileKind.{TileKind}
use Rattle.plane_map.specs.declared.tile.TileKind.TheVariants.{RamB}
use Rattle.ice_image.specs.Bits.{Bit, Extra, IsBit, bit_of, ram_word_of, tile_bit_of}
use Rattle.ice_image.specs.Configuration.{Configuration}
use Rattle.ice_image.specs.Owned.{is_extra}
use Rattle.ice_image.specs.declared.settings.Settings.{Settings}
use Rattle.asc_text.specs.Statements.{tile_keyword}
use Rattle.asc_text.specs.Canonical.{grid_line, no_sleep_lines, range_lines, warm_boot_lines}
use Rattle.chipdb_lines.specs.Items.{ExtraLine}
use Rattle.chipdb_reader.specs.Database.{Database}
use Rattle.image_explain.specs.Explained.{extra_text, item_lines}
use Rattle.image_diff.specs.Differences.{differences, is_other_tile, minus, plus, tile_changes, word_line}

-- ---- equal images

-- the settings and all bits are the same
pub record AreAlike (first second : Configuration) : Type 0 where
  pub settings : first.settings ≡ second.settings
  pub bits : (bit : Bit) → IsBit first.layout bit → bit_of first bit ≡ bit_of second bit

-- Of two images of one layout nothing is told exactly where they are alike.
abbrev pub TellsNothingOfAlike : Database → Configuration → Configuration → Type 0
TellsNothingOfAlike database first second =
    first.layout ≡ second.layout → (differences database first second ≡ []) ↔ AreAlike first second

-- ---- which lines are told

-- the first list has the line, and the second doesn't
abbrev pub HasAlone : List (List ℕ) → List (List ℕ) → List ℕ → Type 0
HasAlone first second line = Contains first line × ¬ Contains second line

-- the lines that the first list alone has, each with `-`, and then those that the second alone has, each with `+`
pub record AreMarked (first second lines : List (List ℕ)) : Type 0 where
  pub firsts : List (List ℕ)
  pub seconds : List (List ℕ)
  pub lines_are : lines ≡ map minus firsts ++ map plus seconds
  pub of_first : (line : List ℕ) → Contains firsts line ↔ HasAlone first second line
  pub of_second : (line : List ℕ) → Contains seconds line ↔ HasAlone second first line

-- each setting by its line in the canonical text
pub record TellsSettings (first second : Settings) (lines : List (List ℕ)) : Type 0 where
  pub warm_boot : List (List ℕ)
  pub range : List (List ℕ)
  pub no_sleep : List (List ℕ)
  pub lines_are : lines ≡ warm_boot ++ range ++ no_sleep
  pub warm_boots : AreMarked (warm_boot_lines first.warm_boot) (warm_boot_lines second.warm_boot) warm_boot
  pub ranges : AreMarked (range_lines first.range) (range_lines second.range) range
  pub no_sleeps : AreMarked (no_sleep_lines first.no_sleep) (no_sleep_lines second.no_sleep) no_sleep

-- a bit of the tile at (x, y) differs
abbrev pub Differs : Configuration → Configuration → ℕ → ℕ → Type 0
Differs first second x y =
    (row : ℕ) × (col : ℕ) × (row < 16) × (col < columns_at first.layout.device x y) × (tile_bit_of first x y row col ≢ tile_bit_of second x y row col)

-- What is told of a place of the grid: nothing if there is no tile, or if no bit of it differs; else its statement, and below it the lines of
-- what its bits mean, marked.
abbrev pub TellsTile : Database → Configuration → Configuration → ℕ → ℕ → Option TileKind → List (List ℕ) → Type 0
TellsTile database first second x y None lines = lines ≡ []
TellsTile database first second x y (Some kind) lines =
    ((¬ Differs first second x y) × (lines ≡ []))
    ⊎ (Differs first second x y × ((below : List (List ℕ)) × (lines ≡ grid_line (tile_keyword kind) x y ∷ below)
    × AreMarked (item_lines database first x y kind) (item_lines database second x y kind) below))

-- all places, row by row of the grid
pub record TellsTiles (database : Database) (first second : Configuration) (lines : List (List ℕ)) : Type 0 where
  pub of_place : ℕ → ℕ → List (List ℕ)
  pub by_rows : lines ≡ gathered_below (grid_height first.layout.device) (λ y. gathered_below (grid_width first.layout.device) (λ x. of_place x y))
  pub places : (x y : ℕ) → TellsTile database first second x y (kind_of first.layout.device x y) (of_place x y)

-- an image has an extra bit at a place, and it is set
abbrev pub SetsExtra : Configuration → Place → Type 0
SetsExtra image at = (is_extra image.layout at ≡ true) × (bit_of image (Extra at) ≡ true)

-- Extra bits, by their places: a database may give one name to several. Each goes by its name in the explained text.
pub record TellsExtras (extras : List ExtraLine) (first second : Configuration) (lines : List (List ℕ)) : Type 0 where
  pub firsts : List Place
  pub seconds : List Place
  pub none : firsts ≡ [] → seconds ≡ [] → lines ≡ []
  pub some : ¬ ((firsts ≡ []) × (seconds ≡ [])) → lines ≡ codes ".extra_bits" ∷ map minus (map (extra_text extras) firsts) ++ map plus (map (extra_text extras) seconds)
  pub of_first : (at : Place) → Contains firsts at ↔ (SetsExtra first at × ¬ SetsExtra second at)
  pub of_second : (at : Place) → Contains seconds at ↔ (SetsExtra second at × ¬ SetsExtra first at)

-- what is told of a word of the RAM whose lower tile is at (x, y), if there is one: nothing if it is the same, else what it is in both images
abbrev pub TellsWord : Configuration → Configuration → ℕ → ℕ → ℕ → Option TileKind → List (List ℕ) → Type 0
TellsWord first second x y word (Some RamB) lines =
    ((ram_word_of first x y word ≡ ram_word_of second x y word) × (lines ≡ []))
    ⊎ ((ram_word_of first x y word ≢ ram_word_of second x y word) × (lines ≡ word_line x y word (ram_word_of first x y word) (ram_word_of second x y word) ∷ []))
TellsWord first second x y word kind lines = lines ≡ []

-- the words of all RAMs, row by row of the grid
pub record TellsWords (first second : Configuration) (lines : List (List ℕ)) : Type 0 where
  pub of_word : ℕ → ℕ → ℕ → List (List ℕ)
  pub by_rows : lines ≡ gathered_below (grid_height first.layout.device) (λ y. gathered_below (grid_width first.layout.device) (λ x. gathered_below 256 (of_word x y)))
  pub words : (x y word : ℕ) → TellsWord first second x y word (kind_of first.layout.device x y) (of_word x y word)

-- the whole text: its lines are told by these, and there are no others
pub record TellsDifferences (database : Database) (first second : Configuration) : Type 0 where
  pub settings : List (List ℕ)
  pub tiles : List (List ℕ)
  pub extras : List (List ℕ)
  pub words : List (List ℕ)
  pub text : differences database first second ≡ text_of (settings ++ tiles ++ extras ++ words)
  pub of_settings : TellsSettings first.settings second.settings settings
  pub of_tiles : TellsTiles database first second tiles
  pub of_extras : TellsExtras database.extras first second extras
  pub of_words : TellsWords first second words

-- ---- exchanged images

-- Exchanging two images of one device exchanges `-` and `+`, and tells of the same tiles.
pub record TellsExchanged (database : Database) (first second : Configuration) (x y : ℕ) (kind : TileKind) : Type 0 where
  pub tiles : first.layout.device ≡ second.layout.device → is_other_tile second first x y ≡ is_other_tile first second x y
  pub lines : (line : List ℕ) → Contains (tile_changes database second first x y kind) (plus line)
      ↔ Contains (tile_changes database first second x y kind) (minus line)
