-- Statements: what a line that begins with a dot says. Blanks at its end don't count. The statements are those of Project IceStorm,
-- 'iCE40 ASCII format'; `.freqrange` and `.nosleep` are this project's choice.
use Rattle.std.specs.Prelude.{ℕ, Bool, true, false, List, [], ◌∷◌, drop, get_or, codes, bytes_eq, ◌==◌, if◌then◌else◌, Option, Some, None}
use Rattle.text_lines.specs.Lines.{trimmed}
use Rattle.text_lines.specs.declared.words.Separators.TheVariants.{Spaces}
use Rattle.text_lines.specs.Words.{words_of, first_word, after_word, number_of, numbers_of}
use Rattle.plane_map.specs.DeviceWords.{device_named}
use Rattle.plane_map.specs.declared.tile.TileKind.{TileKind}
use Rattle.plane_map.specs.declared.tile.TileKind.TheVariants.{Io, Logic, RamB, RamT}
use Rattle.ice_image.specs.declared.settings.Range.{Range}
use Rattle.ice_image.specs.declared.settings.Range.TheVariants.{Low, Medium, High}
use Rattle.asc_text.specs.declared.statement.Statement.{Statement}
use Rattle.asc_text.specs.declared.statement.Statement.TheVariants.{Comment, Device, WarmBoot, FrequencyRange, NoSleep, Tile, RamData, ExtraBit, Symbol}

-- ---- words

abbrev pub switch_word : Bool → List ℕ
switch_word true = codes "enabled"
switch_word false = codes "disabled"

-- the Boolean that `enabled` or `disabled` names
abbrev pub switch_named : List ℕ → Option Bool
switch_named word =
    if bytes_eq word (switch_word true) then Some true
    else if bytes_eq word (switch_word false) then Some false
    else None

abbrev pub range_word : Range → List ℕ
range_word Low = codes "low"
range_word Medium = codes "medium"
range_word High = codes "high"

-- the oscillator range that a word names
abbrev pub range_named : List ℕ → Option Range
range_named word =
    if bytes_eq word (range_word Low) then Some Low
    else if bytes_eq word (range_word Medium) then Some Medium
    else if bytes_eq word (range_word High) then Some High
    else None

-- ---- keywords

abbrev pub comment_keyword : List ℕ
comment_keyword = codes ".comment"

abbrev pub device_keyword : List ℕ
device_keyword = codes ".device"

abbrev pub warm_boot_keyword : List ℕ
warm_boot_keyword = codes ".warmboot"

abbrev pub range_keyword : List ℕ
range_keyword = codes ".freqrange"

abbrev pub no_sleep_keyword : List ℕ
no_sleep_keyword = codes ".nosleep"

abbrev pub tile_keyword : TileKind → List ℕ
tile_keyword Io = codes ".io_tile"
tile_keyword Logic = codes ".logic_tile"
tile_keyword RamB = codes ".ramb_tile"
tile_keyword RamT = codes ".ramt_tile"

abbrev pub ram_data_keyword : List ℕ
ram_data_keyword = codes ".ram_data"

abbrev pub extra_bit_keyword : List ℕ
extra_bit_keyword = codes ".extra_bit"

abbrev pub symbol_keyword : List ℕ
symbol_keyword = codes ".sym"

-- ---- statements by the words after their keyword

-- `.device NAME`
abbrev pub device_of_words : List (List ℕ) → Option Statement
device_of_words (word ∷ []) = Some (Device (device_named word))
device_of_words words = None

-- `.warmboot` and one word
abbrev pub warm_boot_of_words : List (List ℕ) → Option Statement
warm_boot_of_words (word ∷ []) = Some (WarmBoot (switch_named word))
warm_boot_of_words words = None

-- `.freqrange` and one word
abbrev pub range_of_words : List (List ℕ) → Option Statement
range_of_words (word ∷ []) = Some (FrequencyRange (range_named word))
range_of_words words = None

-- `.nosleep` and one word
abbrev pub no_sleep_of_words : List (List ℕ) → Option Statement
no_sleep_of_words (word ∷ []) = Some (NoSleep (switch_named word))
no_sleep_of_words words = None

-- a tile's keyword and the numbers X and Y
abbrev pub tile_of_numbers : TileKind → Option (List ℕ) → Option Statement
tile_of_numbers kind (Some (x ∷ y ∷ [])) = Some (Tile kind x y)
tile_of_numbers kind numbers = None

-- `.ram_data` and the numbers X and Y
abbrev pub ram_data_of_numbers : Option (List ℕ) → Option Statement
ram_data_of_numbers (Some (x ∷ y ∷ [])) = Some (RamData x y)
ram_data_of_numbers numbers = None

-- `.extra_bit` and the numbers BANK, X and Y
abbrev pub extra_bit_of_numbers : Option (List ℕ) → Option Statement
extra_bit_of_numbers (Some (bank ∷ x ∷ y ∷ [])) = Some (ExtraBit bank x y)
extra_bit_of_numbers numbers = None

-- `.sym`, the number NET, one space, and a name of at least one byte, which is the rest of the line
abbrev pub symbol_of_parts : Option ℕ → List ℕ → Option Statement
symbol_of_parts (Some net) (byte ∷ bytes) = Some (Symbol net)
symbol_of_parts (Some net) [] = None
symbol_of_parts None name = None

-- the text after the first word and one space
abbrev pub name_after : List ℕ → List ℕ
name_after line = drop 1 (after_word Spaces line)

-- ---- statements

-- the statement of a keyword and the text after it
abbrev pub spelled : List ℕ → List ℕ → Option Statement
spelled keyword following =
    if bytes_eq keyword comment_keyword then Some Comment
    else if bytes_eq keyword device_keyword then device_of_words (words_of Spaces following)
    else if bytes_eq keyword warm_boot_keyword then warm_boot_of_words (words_of Spaces following)
    else if bytes_eq keyword range_keyword then range_of_words (words_of Spaces following)
    else if bytes_eq keyword no_sleep_keyword then no_sleep_of_words (words_of Spaces following)
    else if bytes_eq keyword (tile_keyword Io) then tile_of_numbers Io (numbers_of (words_of Spaces following))
    else if bytes_eq keyword (tile_keyword Logic) then tile_of_numbers Logic (numbers_of (words_of Spaces following))
    else if bytes_eq keyword (tile_keyword RamB) then tile_of_numbers RamB (numbers_of (words_of Spaces following))
    else if bytes_eq keyword (tile_keyword RamT) then tile_of_numbers RamT (numbers_of (words_of Spaces following))
    else if bytes_eq keyword ram_data_keyword then ram_data_of_numbers (numbers_of (words_of Spaces following))
    else if bytes_eq keyword extra_bit_keyword then extra_bit_of_numbers (numbers_of (words_of Spaces following))
    else if bytes_eq keyword symbol_keyword then symbol_of_parts (number_of (first_word Spaces following)) (name_after following)
    else None

-- a line that begins with a dot is a statement
abbrev pub begins_with_dot : List ℕ → Bool
begins_with_dot line = get_or line 0 0 == 46

-- the statement that a line is, if it is a valid one
unfoldable pub statement_in : List ℕ → Option Statement
statement_in line =
    if begins_with_dot line then spelled (first_word Spaces (trimmed line)) (after_word Spaces (trimmed line)) else None

-- the name that a line gives to a net, if it gives one
unfoldable pub name_in : List ℕ → List ℕ
name_in line = name_after (after_word Spaces (trimmed line))
