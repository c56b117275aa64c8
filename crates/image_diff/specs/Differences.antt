-- What two configurations of one device differ in, told by the names of a database, as one list of lines. This text is this project's own;
-- the lines in it are those of the text that explains a configuration and of the canonical `.asc` text. Comments make no difference.
use Rattle.std.specs.Prelude.{◌≡◌, ℕ, Bool, true, false, not, ◌&&◌, ◌==◌, bytes_eq, List, [], ◌∷◌, ◌++◌, map, filter, codes, decimal, if◌then◌else◌, Option, None, Some}
use Rattle.std.specs.List.{list_any}
use Rattle.hex.specs.Hex.{encode_lower}
use Rattle.index_search.specs.Places.{any_below, gathered_below}
use Rattle.text_lines.specs.Written.{text_of}
use Rattle.plane_map.specs.Devices.{is_same_device}
use Rattle.plane_map.specs.Layout.{kind_of, columns_at, grid_width, grid_height}
use Rattle.plane_map.specs.declared.tile.Place.{Place}
use Rattle.plane_map.specs.declared.tile.TileKind.{TileKind}
use Rattle.plane_map.specs.declared.tile.TileKind.TheVariants.{RamB}
use Rattle.ice_image.specs.Bits.{Extra, bit_of, ram_word_of, set_extras, tile_bit_of}
use Rattle.ice_image.specs.Configuration.{Configuration}
use Rattle.ice_image.specs.Owned.{is_extra}
use Rattle.ice_image.specs.declared.settings.Settings.{Settings}
use Rattle.asc_text.specs.Statements.{tile_keyword}
use Rattle.asc_text.specs.Canonical.{grid_line, no_sleep_lines, range_lines, two_bytes, warm_boot_lines, with_word}
use Rattle.chipdb_lines.specs.Items.{ExtraLine}
use Rattle.chipdb_reader.specs.Database.{Database}
use Rattle.image_explain.specs.Explained.{extra_text, item_lines}
use Rattle.image_diff.specs.declared.fault.DiffFault.{DiffFault}
use Rattle.image_diff.specs.declared.fault.DiffFault.TheVariants.{Database as OtherDatabase, Images, Memory}

-- ---- lines of one image alone

-- a line with `-` before it, for what the first image alone has
abbrev pub minus : List ℕ → List ℕ
minus line = 45 ∷ line

-- a line with `+` before it, for what the second image alone has
abbrev pub plus : List ℕ → List ℕ
plus line = 43 ∷ line

-- whether a line is one of these
abbrev pub is_among : List (List ℕ) → List ℕ → Bool
is_among lines line = list_any (λ other. bytes_eq other line) lines

-- the lines that aren't among others
unfoldable pub lines_without : List (List ℕ) → List (List ℕ) → List (List ℕ)
lines_without others lines = filter (λ line. not (is_among others line)) lines

-- the lines that the first list alone has, and then those that the second alone has
unfoldable pub line_changes : List (List ℕ) → List (List ℕ) → List (List ℕ)
line_changes first second = map minus (lines_without second first) ++ map plus (lines_without first second)

-- ---- settings

-- the lines of the canonical text for warm boot, the range and no sleep, one setting after the other
unfoldable pub setting_changes : Settings → Settings → List (List ℕ)
setting_changes first second =
    line_changes (warm_boot_lines first.warm_boot) (warm_boot_lines second.warm_boot)
    ++ line_changes (range_lines first.range) (range_lines second.range)
    ++ line_changes (no_sleep_lines first.no_sleep) (no_sleep_lines second.no_sleep)

-- ---- tiles

-- whether two bits differ
abbrev pub differ : Bool → Bool → Bool
differ true other = not other
differ false other = other

-- whether a bit of the tile at (x, y) differs
unfoldable pub is_other_tile : Configuration → Configuration → ℕ → ℕ → Bool
is_other_tile first second x y =
    any_below 16 (λ row. any_below (columns_at first.layout.device x y) (λ col. differ (tile_bit_of first x y row col) (tile_bit_of second x y row col)))

-- A tile in which a bit differs: its statement, and the lines that one image alone has there of those that explain the tile alone. If a
-- database says two things in one line, both may have the same lines; then the statement stands alone.
abbrev pub tile_changes : Database → Configuration → Configuration → ℕ → ℕ → TileKind → List (List ℕ)
tile_changes database first second x y kind =
    grid_line (tile_keyword kind) x y ∷ line_changes (item_lines database first x y kind) (item_lines database second x y kind)

abbrev pub changes_at : Database → Configuration → Configuration → ℕ → ℕ → Option TileKind → List (List ℕ)
changes_at database first second x y None = []
changes_at database first second x y (Some kind) = if is_other_tile first second x y then tile_changes database first second x y kind else []

-- all such tiles, row by row of the grid
unfoldable pub all_tile_changes : Database → Configuration → Configuration → List (List ℕ)
all_tile_changes database first second =
    gathered_below (grid_height first.layout.device) (λ y. gathered_below (grid_width first.layout.device) (λ x.
    changes_at database first second x y (kind_of first.layout.device x y)))

-- ---- extra bits

-- whether a place has an extra bit, and it is set
abbrev pub is_set_extra : Configuration → Place → Bool
is_set_extra image at = is_extra image.layout at && bit_of image (Extra at)

-- the set extra bits of an image that aren't set extra bits of another
unfoldable pub extras_without : Configuration → Configuration → List Place
extras_without other image = filter (λ at. not (is_set_extra other at)) (set_extras image)

-- The extra bits that the first image alone has, and then those that the second alone has, below a statement. They go by their places, since a
-- database may give two of them one name.
abbrev pub extra_changes : List ExtraLine → List Place → List Place → List (List ℕ)
extra_changes extras [] [] = []
extra_changes extras first second =
    codes ".extra_bits" ∷ map minus (map (extra_text extras) first) ++ map plus (map (extra_text extras) second)

-- ---- contents of RAMs

-- a number below 65,536 as four hexadecimal digits
abbrev pub digits : ℕ → List ℕ
digits number = encode_lower (two_bytes number)

-- `ram X Y word N: -1234 +1235`, for the RAM whose lower tile is at (X, Y)
abbrev pub word_line : ℕ → ℕ → ℕ → ℕ → ℕ → List ℕ
word_line x y word first second =
    with_word (with_word (with_word (with_word (grid_line (codes "ram") x y) (codes "word")) (decimal word ++ codes ":")) (minus (digits first))) (plus (digits second))

-- a word that differs
abbrev pub word_changes : Configuration → Configuration → ℕ → ℕ → ℕ → List (List ℕ)
word_changes first second x y word =
    if ram_word_of first x y word == ram_word_of second x y word then []
    else word_line x y word (ram_word_of first x y word) (ram_word_of second x y word) ∷ []

-- the words that differ of the RAM whose lower tile this is
abbrev pub ram_changes : Configuration → Configuration → ℕ → ℕ → Option TileKind → List (List ℕ)
ram_changes first second x y (Some RamB) = gathered_below 256 (word_changes first second x y)
ram_changes first second x y kind = []

-- those of all RAMs, row by row of the grid
unfoldable pub all_ram_changes : Configuration → Configuration → List (List ℕ)
all_ram_changes first second =
    gathered_below (grid_height first.layout.device) (λ y. gathered_below (grid_width first.layout.device) (λ x.
    ram_changes first second x y (kind_of first.layout.device x y)))

-- ---- the whole

unfoldable pub changed_lines : Database → Configuration → Configuration → List (List ℕ)
changed_lines database first second =
    setting_changes first.settings second.settings
    ++ all_tile_changes database first second
    ++ extra_changes database.extras (extras_without second first) (extras_without first second)
    ++ all_ram_changes first second

-- the text; it is empty if nothing differs
unfoldable pub differences : Database → Configuration → Configuration → List ℕ
differences database first second = text_of (changed_lines database first second)

-- ---- refusals

-- why two images are not compared: the database is for another device than the first, or the second is
unfoldable pub diff_fault_of : Database → Configuration → Configuration → Option DiffFault
diff_fault_of database first second =
    if not (is_same_device database.chip.device first.layout.device) then Some OtherDatabase
    else if not (is_same_device first.layout.device second.layout.device) then Some Images
    else None

-- the reported fault is that one; out of memory may come in place of any answer
abbrev pub Tells : Option DiffFault → DiffFault → Type 0
Tells fault (Memory e) = Unit {0}
Tells fault OtherDatabase = fault ≡ Some OtherDatabase
Tells fault Images = fault ≡ Some Images
