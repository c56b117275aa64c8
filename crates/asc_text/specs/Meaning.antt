-- The configuration that a text without a faulty line gives, as Project IceStorm, 'iCE40 ASCII format' has it. What the lines before a line
-- say is a function of that line's index; for the whole text the index is the number of its lines.
use Rattle.std.specs.Prelude.{◌≡◌, ℕ, ◌-◌, ◌/◌, ◌%◌, Bool, false, not, ◌&&◌, List, [], ◌∷◌, length, nat_lt, ◌==◌, if◌then◌else◌, Option, Some, None, unwrap_or}
use Rattle.text_lines.specs.Lines.{lines_of, line_at, trimmed}
use Rattle.index_search.specs.Places.{any_below, last_below, first_below, gathered_below}
use Rattle.plane_map.specs.declared.device.DeviceName.{DeviceName}
use Rattle.plane_map.specs.declared.tile.Place.{Place}
use Rattle.plane_map.specs.Layout.{Layout}
use Rattle.layout_file.specs.declared.layouts.Layouts.{Layouts}
use Rattle.layout_file.specs.Layouts.{layout_for}
use Rattle.ice_image.specs.Configuration.{Configuration, usual_settings}
use Rattle.ice_image.specs.Bits.{Bit, OfTile, OfWord, Extra, image_from}
use Rattle.ice_image.specs.declared.settings.Settings.{Settings}
use Rattle.ice_image.specs.declared.settings.Range.{Range}
use Rattle.asc_text.specs.declared.statement.Statement.{Statement}
use Rattle.asc_text.specs.declared.statement.Statement.TheVariants.{WarmBoot, FrequencyRange, NoSleep, Tile, RamData, ExtraBit, Symbol}
use Rattle.asc_text.specs.declared.file.Symbol.{Symbol as NetName}
use Rattle.asc_text.specs.Statements.{begins_with_dot, name_in}
use Rattle.asc_text.specs.Rows.{row_bit, memory_bit}
use Rattle.asc_text.specs.Blocks.{depth_at, statement_over, statement_at, dot_before, is_comment, device_before}
use Rattle.ice_image.specs.Owned.{is_same_place}
use Rattle.asc_text.specs.Faults.{asc_fault_of, extra_place}

-- ---- settings

abbrev pub warm_boot_in : Option Statement → Option Bool
warm_boot_in (Some (WarmBoot setting)) = setting
warm_boot_in statement = None

abbrev pub range_in : Option Statement → Option Range
range_in (Some (FrequencyRange setting)) = setting
range_in statement = None

abbrev pub no_sleep_in : Option Statement → Option Bool
no_sleep_in (Some (NoSleep setting)) = setting
no_sleep_in statement = None

-- what a statement before a line sets, or `usual` if none does
abbrev pub set_before : {A : Type 0} → List (List ℕ) → ℕ → (Option Statement → Option A) → A → A
set_before lines n setting usual = unwrap_or (first_below n (λ k. setting (statement_at lines k))) usual

abbrev pub settings_before : List (List ℕ) → ℕ → Settings
settings_before lines n = record {
  range = set_before lines n range_in usual_settings.range;
  warm_boot = set_before lines n warm_boot_in usual_settings.warm_boot;
  no_sleep = set_before lines n no_sleep_in usual_settings.no_sleep;
}

-- ---- the comment

-- whether there is an index, and it is that of a line
abbrev pub is_that_line : Option ℕ → ℕ → Bool
is_that_line None start = false
is_that_line (Some index) start = index == start

-- a line of the comment that begins at that line; empty lines are dropped
abbrev pub comment_line : List (List ℕ) → ℕ → ℕ → List (List ℕ)
comment_line lines start n =
    let line = line_at lines n in
    if is_that_line (dot_before lines n) start && not (begins_with_dot line) && nat_lt 0 (length line) then line ∷ [] else []

abbrev pub comment_from : List (List ℕ) → ℕ → Option ℕ → Option (List (List ℕ))
comment_from lines n None = None
comment_from lines n (Some start) = Some (gathered_below n (comment_line lines start))

-- the comment that the lines before a line give: the last one
unfoldable pub comment_before : List (List ℕ) → ℕ → Option (List (List ℕ))
comment_before lines n = comment_from lines n (last_below n (λ k. is_comment (statement_at lines k)))

-- ---- bits

-- whether a row of a tile has the character 1 for a bit
abbrev pub row_sets : ℕ → ℕ → ℕ → List ℕ → Bit → Bool
row_sets x y row line (OfTile bit) = (x == bit.x) && (y == bit.y) && (row == bit.row) && row_bit line bit.col
row_sets x y row line bit = false

-- whether a line of sixteen words of a RAM has the digits for a bit
abbrev pub line_sets : ℕ → ℕ → ℕ → List ℕ → Bit → Bool
line_sets x y row line (OfWord bit) = (x == bit.x) && (y == bit.y) && (row == bit.word / 16) && memory_bit line (bit.word % 16) bit.bit
line_sets x y row line bit = false

-- whether a bit is the extra bit at a place
abbrev pub extra_sets : Place → Bit → Bool
extra_sets place (Extra at) = is_same_place place at
extra_sets place bit = false

-- whether a line sets a bit: it is a row of the bit's tile, a line of its RAM, or the statement of the extra bit
abbrev pub sets_bit : Option Statement → ℕ → List ℕ → Bit → Bool
sets_bit (Some (Tile kind x y)) depth line bit = row_sets x y (depth - 1) line bit && nat_lt 0 depth
sets_bit (Some (RamData x y)) depth line bit = line_sets x y (depth - 1) line bit && nat_lt 0 depth
sets_bit (Some (ExtraBit bank x y)) depth line bit = extra_sets (extra_place bank x y) bit
sets_bit statement depth line bit = false

-- A bit is 1 exactly if some line sets it.
unfoldable pub is_set_before : List (List ℕ) → ℕ → Bit → Bool
is_set_before lines n bit =
    any_below n (λ k. sets_bit (statement_over lines k) (depth_at lines k) (trimmed (line_at lines k)) bit)

-- ---- the whole

-- what the lines before a line configure, under a layout
abbrev pub image_before : Layout → List (List ℕ) → ℕ → Configuration
image_before layout lines n = image_from layout (comment_before lines n) (settings_before lines n) (is_set_before lines n)

-- the name that a line gives to a net
abbrev pub symbol_in : Option Statement → List ℕ → List NetName
symbol_in (Some (Symbol net)) line = record { net = net; name = name_in line } ∷ []
symbol_in statement line = []

-- the names that the lines before a line give, in their order
unfoldable pub symbols_before : List (List ℕ) → ℕ → List NetName
symbols_before lines n = gathered_below n (λ k. symbol_in (statement_at lines k) (line_at lines k))

abbrev pub image_for : Layouts → Option DeviceName → List (List ℕ) → Option Configuration
image_for layouts None lines = None
image_for layouts (Some device) lines = Some (image_before (layout_for layouts device) lines (length lines))

-- what a text configures under the layouts, if it names a device
unfoldable pub asc_image_of : Layouts → List ℕ → Option Configuration
asc_image_of layouts text = let lines = lines_of text in image_for layouts (device_before lines (length lines)) lines

-- the names that a text gives to nets
unfoldable pub asc_symbols_of : List ℕ → List NetName
asc_symbols_of text = let lines = lines_of text in symbols_before lines (length lines)

-- The meaning of a text under the layouts: no line is faulty, and this is what it configures and names.
pub record AscMeans (layouts : Layouts) (text : List ℕ) (image : Configuration) (symbols : List NetName) : Type 0 where
  pub accepted : asc_fault_of layouts text ≡ None
  pub configures : asc_image_of layouts text ≡ Some image
  pub names : asc_symbols_of text ≡ symbols
