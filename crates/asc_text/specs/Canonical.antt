-- The one text that is written for a configuration: a concatenation of lines in the form of Project IceStorm, 'iCE40 ASCII format'. The
-- choice of one text among all that say the same is this project's.
use Rattle.std.specs.Prelude.{ℕ, ◌+◌, ◌-◌, ◌*◌, ◌/◌, ◌%◌, Bool, true, false, List, [], ◌∷◌, ◌++◌, map, decimal, Option, Some, None}
use Rattle.index_search.specs.Places.{gathered_below}
use Rattle.text_lines.specs.Written.{text_of}
use Rattle.hex.specs.Hex.{encode_lower}
use Rattle.plane_map.specs.Layout.{kind_of, grid_width, grid_height}
use Rattle.plane_map.specs.declared.tile.TileKind.{TileKind}
use Rattle.plane_map.specs.declared.tile.TileKind.TheVariants.{Io, Logic, RamB, RamT}
use Rattle.plane_map.specs.declared.tile.Place.{Place}
use Rattle.ice_image.specs.Bits.{tile_of, ram_word_of, set_extras}
use Rattle.ice_image.specs.Configuration.{Configuration}
use Rattle.ice_image.specs.declared.settings.Range.{Range}
use Rattle.ice_image.specs.declared.settings.Range.TheVariants.{Low, Medium, High}
use Rattle.plane_map.specs.DeviceWords.{device_word}
use Rattle.asc_text.specs.Statements.{switch_word, range_word, comment_keyword, device_keyword, warm_boot_keyword, range_keyword, no_sleep_keyword, tile_keyword, ram_data_keyword, extra_bit_keyword}

-- a line, a space and a word
abbrev pub with_word : List ℕ → List ℕ → List ℕ
with_word line word = line ++ 32 ∷ word

-- ---- before the tiles

-- the comment, if there is one
abbrev pub comment_lines : Option (List (List ℕ)) → List (List ℕ)
comment_lines None = []
comment_lines (Some lines) = comment_keyword ∷ lines

-- warm boot, if it is disabled
abbrev pub warm_boot_lines : Bool → List (List ℕ)
warm_boot_lines true = []
warm_boot_lines false = with_word warm_boot_keyword (switch_word false) ∷ []

-- the range, if it isn't low
abbrev pub range_lines : Range → List (List ℕ)
range_lines Low = []
range_lines Medium = with_word range_keyword (range_word Medium) ∷ []
range_lines High = with_word range_keyword (range_word High) ∷ []

-- no sleep, if it is enabled
abbrev pub no_sleep_lines : Bool → List (List ℕ)
no_sleep_lines true = with_word no_sleep_keyword (switch_word true) ∷ []
no_sleep_lines false = []

-- the comment, the device and the settings
abbrev pub head_lines : Configuration → List (List ℕ)
head_lines image =
    comment_lines image.comment
    ++ with_word device_keyword (device_word image.layout.device) ∷ []
    ++ warm_boot_lines image.settings.warm_boot
    ++ range_lines image.settings.range
    ++ no_sleep_lines image.settings.no_sleep

-- ---- tiles

-- a keyword, and the column and the row of the grid
abbrev pub grid_line : List ℕ → ℕ → ℕ → List ℕ
grid_line keyword x y = with_word (with_word keyword (decimal x)) (decimal y)

abbrev pub bit_character : Bool → ℕ
bit_character true = 49
bit_character false = 48

-- a row, column 0 first
abbrev pub row_line : List Bool → List ℕ
row_line bits = map bit_character bits

-- a tile and its sixteen rows
abbrev pub tile_lines : Configuration → ℕ → ℕ → TileKind → List (List ℕ)
tile_lines image x y kind = grid_line (tile_keyword kind) x y ∷ map row_line (tile_of image x y)

-- a number below 65,536 as two bytes, the high one first
abbrev pub two_bytes : ℕ → List ℕ
two_bytes word = word / 256 ∷ word % 256 ∷ []

-- sixteen words of a RAM, the first word at the right
abbrev pub memory_line : Configuration → ℕ → ℕ → ℕ → List ℕ
memory_line image x y row =
    encode_lower (gathered_below 16 (λ index. two_bytes (ram_word_of image x y (16 * row + 15 - index))))

-- the contents of a RAM, at its lower tile
abbrev pub ram_lines : Configuration → ℕ → ℕ → List (List ℕ)
ram_lines image x y =
    grid_line ram_data_keyword x y ∷ gathered_below 16 (λ row. memory_line image x y row ∷ [])

-- the tile at a position of the grid, and after a lower tile its RAM's contents
abbrev pub lines_of_tile_at : Configuration → ℕ → ℕ → Option TileKind → List (List ℕ)
lines_of_tile_at image x y None = []
lines_of_tile_at image x y (Some Io) = tile_lines image x y Io
lines_of_tile_at image x y (Some Logic) = tile_lines image x y Logic
lines_of_tile_at image x y (Some RamB) = tile_lines image x y RamB ++ ram_lines image x y
lines_of_tile_at image x y (Some RamT) = tile_lines image x y RamT

-- all tiles, row of the grid by row of the grid
abbrev pub all_tile_lines : Configuration → List (List ℕ)
all_tile_lines image =
    gathered_below (grid_height image.layout.device) (λ y. gathered_below (grid_width image.layout.device) (λ x.
    lines_of_tile_at image x y (kind_of image.layout.device x y)))

-- ---- extra bits

abbrev pub extra_line : Place → List ℕ
extra_line at = with_word (with_word (with_word extra_bit_keyword (decimal at.bank)) (decimal at.px)) (decimal at.py)

-- all set extra bits, by bank, then by row, then by column
abbrev pub all_extra_lines : Configuration → List (List ℕ)
all_extra_lines image = map extra_line (set_extras image)

-- ---- the whole

unfoldable pub canonical_lines : Configuration → List (List ℕ)
canonical_lines image = head_lines image ++ all_tile_lines image ++ all_extra_lines image

-- each line ends with LF
unfoldable pub asc_text_of : Configuration → List ℕ
asc_text_of image = text_of (canonical_lines image)
