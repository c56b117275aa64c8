-- What the reader keeps between the lines of a text, and how a line changes it. What a text means is defined in `Meaning` and
-- `Faults`.
use Rattle.std.specs.Prelude.{◌≡◌, ℕ, zero, suc, ◌+◌, ◌<◌, Bool, true, false, not, ◌&&◌, ◌||◌, List, [], ◌∷◌, ◌++◌, length, get_or, nat_lt, ◌==◌, if◌then◌else◌, Option, Some, None, is_some, unwrap_or, replicate}
use Rattle.std.specs.Bool.{MatchBool}
use Rattle.text_lines.specs.Lines.{lines_of, line_at, trimmed}
use Rattle.index_search.specs.Places.{or_else}
use Rattle.plane_map.specs.Layout.{kind_of, columns_of, max_side}
use Rattle.plane_map.specs.declared.device.DeviceName.{DeviceName}
use Rattle.plane_map.specs.declared.tile.TileKind.{TileKind}
use Rattle.plane_map.specs.declared.tile.TileKind.TheVariants.{RamB}
use Rattle.layout_file.specs.declared.layouts.Layouts.{Layouts}
use Rattle.layout_file.specs.Layouts.{layout_for}
use Rattle.ice_image.specs.Configuration.{blank_image, IsWhole}
use Rattle.ice_image.specs.Either.{configuration_of, device_of}
use Rattle.ice_image.specs.declared.any.AnyImage.{AnyImage}
use Rattle.ice_image.specs.declared.settings.Settings.{Settings}
use Rattle.ice_image.specs.declared.settings.Range.{Range}
use Rattle.ice_image.specs.declared.settings.Range.TheVariants.{Low}
use Rattle.asc_text.specs.declared.statement.Statement.{Statement}
use Rattle.asc_text.specs.declared.statement.Statement.TheVariants.{Comment, Device, WarmBoot, FrequencyRange, NoSleep, Tile, RamData, ExtraBit, Symbol}
use Rattle.asc_text.specs.declared.fault.TileXy.{TileXy}
use Rattle.asc_text.specs.declared.fault.AscCause.{AscCause}
use Rattle.asc_text.specs.declared.fault.AscCause.TheVariants.{Statement as StatementCause, NoDevice, Row as RowCause, Repeated, Hex, ExtraPlace, Setting}
use Rattle.asc_text.specs.declared.fault.AscFault.{AscFault}
use Rattle.asc_text.specs.declared.fault.AscFault.TheVariants.{At, Memory as OutOfMemory}
use Rattle.asc_text.specs.declared.reading.reader.TextReader.{TextReader}
use Rattle.asc_text.specs.declared.reading.reader.Expected.{Expected}
use Rattle.asc_text.specs.declared.reading.reader.Expected.TheVariants.{Statement as AnyStatement, Row, Memory}
use Rattle.asc_text.specs.declared.reading.reader.LineRefusal.{LineRefusal}
use Rattle.asc_text.specs.declared.reading.reader.LineRefusal.TheVariants.{Cause, Memory as NoMemory}
use Rattle.asc_text.specs.Statements.{statement_in, begins_with_dot}
use Rattle.asc_text.specs.inside.TileSets.{has_tile}
use Rattle.asc_text.specs.Rows.{is_row, is_memory_line, ram_line_bytes}
use Rattle.ice_image.specs.Owned.{is_extra}
use Rattle.asc_text.specs.Faults.{cause_if, extra_place, unknown_device, kind_cause, comment_cause, stray_cause}
use Rattle.asc_text.specs.inside.Gains.{bytes_set}
use Rattle.asc_text.specs.Meaning.{row_sets, extra_sets}
use Rattle.ice_image.specs.Bits.{Bit, Gains}

-- ---- what is kept

pub record ReaderState : Type 0 where
  pub layouts : Layouts
  pub warm_boot : Option Bool
  pub range : Option Range
  pub no_sleep : Option Bool
  pub comment : Option (List (List ℕ))
  pub in_comment : Bool
  pub image : Option AnyImage
  pub tiles : List Bool
  pub rams : List Bool
  pub expected : Expected

abbrev pub state_of : TextReader → ReaderState
state_of reader = record {
  layouts = reader.layouts;
  warm_boot = reader.warm_boot;
  range = reader.range;
  no_sleep = reader.no_sleep;
  comment = reader.comment;
  in_comment = reader.in_comment;
  image = reader.image;
  tiles = reader.tiles;
  rams = reader.rams;
  expected = reader.expected;
}

-- what is kept before the first line
abbrev pub begun : Layouts → ReaderState
begun layouts = record {
  layouts = layouts;
  warm_boot = None;
  range = None;
  no_sleep = None;
  comment = None;
  in_comment = false;
  image = None;
  tiles = replicate 1156 false;
  rams = replicate 1156 false;
  expected = AnyStatement;
}

-- rows of a tile that the device has
abbrev pub HasKind : Option AnyImage → ℕ → ℕ → TileKind → Type 0
HasKind None x y kind = ⊥
HasKind (Some image) x y kind = kind_of (device_of image) x y ≡ Some kind

-- rows are expected of a tile that the device has, and contents of a RAM at its lower tile
abbrev pub IsReady : Option AnyImage → Expected → Type 0
IsReady image AnyStatement = Unit {0}
IsReady image (Row kind x y row) = HasKind image x y kind × (row < 16)
IsReady image (Memory x y row) = HasKind image x y RamB × (row < 16)

-- how many bytes the expected row or digits have; a statement has no fixed length, so it has 0
abbrev pub plain_length : Expected → ℕ
plain_length AnyStatement = 0
plain_length (Row kind x y row) = columns_of kind
plain_length (Memory x y row) = 64

-- the first line of a text
abbrev pub first_line : List ℕ → List ℕ
first_line text = line_at (lines_of text) 0

-- ---- what is wrong

-- a cause that is reported is this one
abbrev pub Reports : Option AscCause → LineRefusal → Type 0
Reports cause (Cause told) = cause ≡ Some told
Reports cause (NoMemory e) = Unit {0}

-- a refusal as the fault of a line and a tile
abbrev pub located : LineRefusal → ℕ → Option TileXy → AscFault
located (Cause cause) line tile = At line tile cause
located (NoMemory e) line tile = OutOfMemory e

-- what is wrong with a setting that was given before or that has no value
abbrev pub setting_refusal : Bool → Bool → Option AscCause
setting_refusal was_given has_value = or_else (cause_if was_given Repeated) (cause_if (not has_value) Setting)

-- what is wrong with the tile of a statement
abbrev pub tile_refusal : Option AnyImage → TileKind → ℕ → ℕ → Option AscCause
tile_refusal None kind x y = Some NoDevice
tile_refusal (Some image) kind x y = kind_cause (kind_of (device_of image) x y) kind

-- what is wrong with the place of an extra bit
abbrev pub extra_refusal : Option AnyImage → ℕ → ℕ → ℕ → Option AscCause
extra_refusal None bank x y = Some NoDevice
extra_refusal (Some image) bank x y = cause_if (not (is_extra (configuration_of image).layout (extra_place bank x y))) ExtraPlace

-- what is wrong with a statement
abbrev pub statement_refusal : ReaderState → Statement → Option AscCause
statement_refusal s Comment = None
statement_refusal s (Device device) = or_else (unknown_device (Device device)) (cause_if (is_some s.image) Repeated)
statement_refusal s (WarmBoot setting) = setting_refusal (is_some s.warm_boot) (is_some setting)
statement_refusal s (FrequencyRange setting) = setting_refusal (is_some s.range) (is_some setting)
statement_refusal s (NoSleep setting) = setting_refusal (is_some s.no_sleep) (is_some setting)
statement_refusal s (Tile kind x y) = or_else (tile_refusal s.image kind x y) (cause_if (has_tile s.tiles x y) Repeated)
statement_refusal s (RamData x y) = or_else (tile_refusal s.image RamB x y) (cause_if (has_tile s.rams x y) Repeated)
statement_refusal s (ExtraBit bank x y) = extra_refusal s.image bank x y
statement_refusal s (Symbol net) = None

-- what is wrong with a line that begins with a dot, and may not be a valid statement
abbrev pub dotted_refusal : ReaderState → Option Statement → Option AscCause
dotted_refusal s None = Some StatementCause
dotted_refusal s (Some statement) = statement_refusal s statement

-- what is wrong with a line that is not a statement
abbrev pub text_refusal : Bool → List ℕ → Option AscCause
text_refusal in_comment line = if in_comment then comment_cause line else stray_cause line

-- what is wrong with a row of a tile
abbrev pub row_refusal : TileKind → List ℕ → Option AscCause
row_refusal kind line = cause_if (not (is_row (columns_of kind) line)) RowCause

-- what is wrong with a line of a RAM's contents
abbrev pub memory_refusal : List ℕ → Option AscCause
memory_refusal line = cause_if (not (is_memory_line line)) Hex

-- what is wrong with a line
abbrev pub line_refusal : ReaderState → Expected → List ℕ → Option AscCause
line_refusal s AnyStatement line = if begins_with_dot line then dotted_refusal s (statement_in line) else text_refusal s.in_comment line
line_refusal s (Row kind x y row) line = row_refusal kind (trimmed line)
line_refusal s (Memory x y row) line = memory_refusal (trimmed line)

-- what is wrong if the text ends here
abbrev pub end_refusal : ReaderState → Expected → Option AscCause
end_refusal s AnyStatement = cause_if (not (is_some s.image)) NoDevice
end_refusal s (Row kind x y row) = Some RowCause
end_refusal s (Memory x y row) = Some Hex

-- the statement that a line is, or among whose sixteen lines it is
abbrev pub statement_of : Expected → List ℕ → Option Statement
statement_of AnyStatement line = statement_in line
statement_of (Row kind x y row) line = Some (Tile kind x y)
statement_of (Memory x y row) line = Some (RamData x y)

-- ---- what a line changes that is not refused

-- the image with more bits
pub record GainsBits (before after : AnyImage) (is_set : Bit → Bool) : Type 0 where
  pub device : device_of after ≡ device_of before
  pub gains : Gains is_set (configuration_of before) (configuration_of after)

-- an image with more bits, if there is one
abbrev pub ImageGains : Option AnyImage → Option AnyImage → (Bit → Bool) → Type 0
ImageGains (Some before) (Some after) is_set = GainsBits before after is_set
ImageGains (Some before) None is_set = ⊥
ImageGains None after is_set = ⊥

-- an image with all bits 0, under the layout of a device
abbrev pub IsBlank : Layouts → Option DeviceName → Option AnyImage → Type 0
IsBlank layouts (Some device) (Some image) = (configuration_of image ≡ blank_image (layout_for layouts device)) × IsWhole (configuration_of image)
IsBlank layouts (Some device) None = ⊥
IsBlank layouts None image = ⊥

-- the tiles with one more
abbrev pub HasInserted : ℕ → ℕ → List Bool → List Bool → Type 0
HasInserted x y before after = (v w : ℕ) → v < max_side → w < max_side → has_tile after v w ≡ (has_tile before v w || ((v == x) && (w == y)))

-- the comment with one more line, if there is a comment
abbrev pub with_line : Option (List (List ℕ)) → List ℕ → Option (List (List ℕ))
with_line None line = None
with_line (Some lines) line = Some (lines ++ line ∷ [])

-- an empty line is dropped
abbrev pub after_text : ReaderState → List ℕ → ReaderState
after_text s line = record s { comment = if s.in_comment && nat_lt 0 (length line) then with_line s.comment line else s.comment }

-- what is expected after the first `row` lines below a statement: the next line, or a statement after all sixteen
abbrev pub before_line : (ℕ → Expected) → ℕ → Expected
before_line line row = if row == 16 then AnyStatement else line row

-- what is expected after the first `row` rows of a tile
abbrev pub before_row : TileKind → ℕ → ℕ → ℕ → Expected
before_row kind x y row = before_line (Row kind x y) row

-- what is expected after the first `row` lines of a RAM's contents
abbrev pub before_memory : ℕ → ℕ → ℕ → Expected
before_memory x y row = before_line (Memory x y) row

-- what a statement changes
abbrev pub TakesStatement : ReaderState → Statement → ReaderState → Type 0
TakesStatement s Comment new = new ≡ record s { comment = Some []; in_comment = true }
TakesStatement s (Device device) new = (new ≡ record s { image = new.image }) × IsBlank s.layouts device new.image
TakesStatement s (WarmBoot setting) new = new ≡ record s { warm_boot = setting }
TakesStatement s (FrequencyRange setting) new = new ≡ record s { range = setting }
TakesStatement s (NoSleep setting) new = new ≡ record s { no_sleep = setting }
TakesStatement s (Tile kind x y) new = (new ≡ record s { tiles = new.tiles; expected = Row kind x y 0 }) × HasInserted x y s.tiles new.tiles
TakesStatement s (RamData x y) new = (new ≡ record s { rams = new.rams; expected = Memory x y 0 }) × HasInserted x y s.rams new.rams
TakesStatement s (ExtraBit bank x y) new = (new ≡ record s { image = new.image })
    × ImageGains s.image new.image (extra_sets (extra_place bank x y))
TakesStatement s (Symbol net) new = new ≡ s

-- a line that isn't of this form is refused
abbrev pub TakesDotted : ReaderState → Option Statement → ReaderState → Type 0
TakesDotted s None new = ⊥
TakesDotted s (Some statement) new = TakesStatement (record s { in_comment = false }) statement new

-- what a row of a tile changes
abbrev pub TakesRow : ReaderState → TileKind → ℕ → ℕ → ℕ → List ℕ → ReaderState → Type 0
TakesRow s kind x y row line new = (new ≡ record s { image = new.image; expected = before_row kind x y (row + 1) })
    × ImageGains s.image new.image (row_sets x y row line)

-- what a line of a RAM's contents changes
abbrev pub TakesMemory : ReaderState → ℕ → ℕ → ℕ → List ℕ → ReaderState → Type 0
TakesMemory s x y row line new = (new ≡ record s { image = new.image; expected = before_memory x y (row + 1) })
    × ImageGains s.image new.image (bytes_set x y row (ram_line_bytes line))

-- what a line changes
abbrev pub Takes : ReaderState → Expected → List ℕ → ReaderState → Type 0
Takes s AnyStatement line new = MatchBool (begins_with_dot line) (TakesDotted s (statement_in line) new) (new ≡ after_text s line)
Takes s (Row kind x y row) line new = TakesRow s kind x y row (trimmed line) new
Takes s (Memory x y row) line new = TakesMemory s x y row (trimmed line) new

-- the first line of a text was taken, and this is the text after it
pub record TakesFirst (s : ReaderState) (text rest : List ℕ) (new : ReaderState) : Type 0 where
  pub lines : lines_of text ≡ first_line text ∷ lines_of rest
  pub shorter : length rest < length text
  pub fits : line_refusal s s.expected (first_line text) ≡ None
  pub takes : Takes s s.expected (first_line text) new

-- whether the byte at that place of a text is LF
abbrev pub is_lf_at : List ℕ → ℕ → Bool
is_lf_at text offset = nat_lt offset (length text) && (get_or text offset 0 == 10)

-- a given number of lines at the front of a text were taken, and this is the text after them
abbrev pub TakesLines : ReaderState → List ℕ → ℕ → List ℕ → ReaderState → Type 0
TakesLines s text zero rest new = (rest ≡ text) × (new ≡ s)
TakesLines s text (suc count) rest new = (middle : List ℕ) × (between : ReaderState) × TakesLines s text count middle between × TakesFirst between middle rest new

-- a given number of the lines below a statement were taken into an image, from a given line on
abbrev pub TakesBelow : (ℕ → Expected) → ℕ → Option AnyImage → List ℕ → ℕ → List ℕ → Option AnyImage → Type 0
TakesBelow line row before text count rest after = (s : ReaderState) → s.image ≡ before → s.expected ≡ line row
    → TakesLines s text count rest (record s { image = after; expected = before_line line (row + count) })

-- ---- the end

-- the settings that were read; a setting that was not given has its usual value
abbrev pub settings_in : ReaderState → Settings
settings_in s = record { range = unwrap_or s.range Low; warm_boot = unwrap_or s.warm_boot true; no_sleep = unwrap_or s.no_sleep false }

-- the image that was read, with the comment and the settings
abbrev pub Finishes : ReaderState → Option AnyImage → AnyImage → Type 0
Finishes s None after = ⊥
Finishes s (Some image) after = configuration_of after ≡ record (configuration_of image) { settings = settings_in s; comment = s.comment }
