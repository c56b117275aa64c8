-- The first faulty line of a text, and what is wrong there.
use Rattle.std.specs.Prelude.{◌≡◌, ℕ, ◌+◌, Bool, true, false, not, ◌&&◌, List, length, nat_lt, nat_le, ◌==◌, if◌then◌else◌, Option, Some, None}
use Rattle.std.specs.List.{list_all}
use Rattle.text_lines.specs.Lines.{lines_of, line_at, trimmed}
use Rattle.index_search.specs.Places.{any_below, first_below, or_else}
use Rattle.plane_map.specs.Layout.{kind_of, columns_of}
use Rattle.plane_map.specs.declared.device.DeviceName.{DeviceName}
use Rattle.plane_map.specs.declared.tile.TileKind.{TileKind}
use Rattle.plane_map.specs.declared.tile.Place.{Place}
use Rattle.plane_map.specs.declared.tile.TileKind.TheVariants.{Io, Logic, RamB, RamT}
use Rattle.asc_text.specs.declared.statement.Statement.{Statement}
use Rattle.asc_text.specs.declared.statement.Statement.TheVariants.{Device, WarmBoot, FrequencyRange, NoSleep, Tile, RamData, ExtraBit}
use Rattle.asc_text.specs.declared.fault.TileXy.{TileXy}
use Rattle.asc_text.specs.declared.fault.AscCause.{AscCause}
use Rattle.asc_text.specs.declared.fault.AscCause.TheVariants.{Statement as StatementCause, NoDevice, Device as DeviceCause, Coordinates, Kind, Row, Repeated, Hex, ExtraPlace, Setting, StrayData, CommentByte}
use Rattle.asc_text.specs.declared.fault.AscFault.{AscFault}
use Rattle.asc_text.specs.declared.fault.AscFault.TheVariants.{At, Memory}
use Rattle.asc_text.specs.Statements.{statement_in, begins_with_dot}
use Rattle.asc_text.specs.Rows.{is_row, is_memory_line}
use Rattle.asc_text.specs.Blocks.{depth_at, statement_over, statement_at, dot_before, is_comment, device_before}
use Rattle.layout_file.specs.declared.layouts.Layouts.{Layouts}
use Rattle.layout_file.specs.Layouts.{layout_for}
use Rattle.ice_image.specs.Owned.{is_extra}

-- a cause, if a test passes
abbrev pub cause_if : Bool → AscCause → Option AscCause
cause_if true cause = Some cause
cause_if false cause = None

-- ---- lines below a statement

-- what is wrong with one of the sixteen lines of a statement
abbrev pub row_cause : Option Statement → List ℕ → Option AscCause
row_cause (Some (Tile kind x y)) line = cause_if (not (is_row (columns_of kind) line)) Row
row_cause (Some (RamData x y)) line = cause_if (not (is_memory_line line)) Hex
row_cause statement line = None

-- ---- statements

-- a statement of places needs the device before it
abbrev pub missing_device : Option DeviceName → Statement → Option AscCause
missing_device None (Tile kind x y) = Some NoDevice
missing_device None (RamData x y) = Some NoDevice
missing_device None (ExtraBit bank x y) = Some NoDevice
missing_device device statement = None

-- an unknown device
abbrev pub unknown_device : Statement → Option AscCause
unknown_device (Device None) = Some DeviceCause
unknown_device statement = None

abbrev pub is_same_kind : TileKind → TileKind → Bool
is_same_kind Io Io = true
is_same_kind Logic Logic = true
is_same_kind RamB RamB = true
is_same_kind RamT RamT = true
is_same_kind there kind = false

-- there is no tile, or one of another kind
abbrev pub kind_cause : Option TileKind → TileKind → Option AscCause
kind_cause None kind = Some Coordinates
kind_cause (Some there) kind = cause_if (not (is_same_kind there kind)) (Kind there)

-- what is wrong with the tile that a statement names; the contents of a RAM are given at its lower tile
abbrev pub tile_cause : Option DeviceName → Statement → Option AscCause
tile_cause (Some device) (Tile kind x y) = kind_cause (kind_of device x y) kind
tile_cause (Some device) (RamData x y) = kind_cause (kind_of device x y) RamB
tile_cause device statement = None

abbrev pub is_device : Option Statement → Bool
is_device (Some (Device device)) = true
is_device statement = false

abbrev pub is_warm_boot : Option Statement → Bool
is_warm_boot (Some (WarmBoot setting)) = true
is_warm_boot statement = false

abbrev pub is_range : Option Statement → Bool
is_range (Some (FrequencyRange setting)) = true
is_range statement = false

abbrev pub is_no_sleep : Option Statement → Bool
is_no_sleep (Some (NoSleep setting)) = true
is_no_sleep statement = false

-- whether a statement begins the rows of that tile
abbrev pub names_tile : ℕ → ℕ → Option Statement → Bool
names_tile x y (Some (Tile kind other_x other_y)) = (other_x == x) && (other_y == y)
names_tile x y statement = false

-- whether a statement begins the contents of that RAM
abbrev pub names_ram : ℕ → ℕ → Option Statement → Bool
names_ram x y (Some (RamData other_x other_y)) = (other_x == x) && (other_y == y)
names_ram x y statement = false

-- whether a statement before a line passes a test
abbrev pub stands_before : List (List ℕ) → ℕ → (Option Statement → Bool) → Bool
stands_before lines n test = any_below n (λ k. test (statement_at lines k))

-- whether the tile's rows, the RAM's contents, the device or the setting of a statement were given before
abbrev pub is_repeated : List (List ℕ) → ℕ → Statement → Bool
is_repeated lines n (Device device) = stands_before lines n is_device
is_repeated lines n (WarmBoot setting) = stands_before lines n is_warm_boot
is_repeated lines n (FrequencyRange setting) = stands_before lines n is_range
is_repeated lines n (NoSleep setting) = stands_before lines n is_no_sleep
is_repeated lines n (Tile kind x y) = stands_before lines n (names_tile x y)
is_repeated lines n (RamData x y) = stands_before lines n (names_ram x y)
is_repeated lines n statement = false

-- the place that the statement of an extra bit names
abbrev pub extra_place : ℕ → ℕ → ℕ → Place
extra_place bank x y = record { bank = bank; px = x; py = y }

-- a place outside the planes, or one that belongs to a tile
abbrev pub extra_cause : Layouts → Option DeviceName → Statement → Option AscCause
extra_cause layouts (Some device) (ExtraBit bank x y) =
    cause_if (not (is_extra (layout_for layouts device) (extra_place bank x y))) ExtraPlace
extra_cause layouts device statement = None

-- a word that is not a value of the setting
abbrev pub setting_cause : Statement → Option AscCause
setting_cause (WarmBoot None) = Some Setting
setting_cause (FrequencyRange None) = Some Setting
setting_cause (NoSleep None) = Some Setting
setting_cause statement = None

-- what is wrong with a statement: the first cause that applies
abbrev pub statement_cause : Layouts → List (List ℕ) → ℕ → Option Statement → Option AscCause
statement_cause layouts lines n None = Some StatementCause
statement_cause layouts lines n (Some statement) =
    let device = device_before lines n in
    or_else (missing_device device statement)
    (or_else (unknown_device statement)
    (or_else (tile_cause device statement)
    (or_else (cause_if (is_repeated lines n statement) Repeated)
    (or_else (extra_cause layouts device statement)
    (setting_cause statement)))))

-- ---- other lines

abbrev pub is_printable : ℕ → Bool
is_printable byte = nat_le 0x20 byte && nat_le byte 0x7E

-- whether a line that is not a statement belongs to a comment: the last statement before it begins one
abbrev pub is_in_comment : List (List ℕ) → Option ℕ → Bool
is_in_comment lines None = false
is_in_comment lines (Some index) = is_comment (statement_in (line_at lines index))

-- what is wrong with a line of a comment, blanks at its end included
abbrev pub comment_cause : List ℕ → Option AscCause
comment_cause line = cause_if (not (list_all is_printable line)) CommentByte

-- a line of blanks is skipped, and any other line that belongs to no statement is stray
abbrev pub stray_cause : List ℕ → Option AscCause
stray_cause line = cause_if (nat_lt 0 (length (trimmed line))) StrayData

-- a text without a device
abbrev pub end_cause : Option DeviceName → Option AscCause
end_cause None = Some NoDevice
end_cause (Some device) = None

-- ---- the whole

-- What is wrong with a line or, after the last line, with the end of the text.
unfoldable pub cause_at : Layouts → List (List ℕ) → ℕ → Option AscCause
cause_at layouts lines n =
    if nat_lt 0 (depth_at lines n) then row_cause (statement_over lines n) (trimmed (line_at lines n))
    else if nat_le (length lines) n then end_cause (device_before lines n)
    else if begins_with_dot (line_at lines n) then statement_cause layouts lines n (statement_in (line_at lines n))
    else if is_in_comment lines (dot_before lines n) then comment_cause (line_at lines n)
    else stray_cause (line_at lines n)

-- the tile or RAM that a statement names
abbrev pub tile_named : Option Statement → Option TileXy
tile_named (Some (Tile kind x y)) = Some (record { x = x; y = y })
tile_named (Some (RamData x y)) = Some (record { x = x; y = y })
tile_named statement = None

-- the line, counted from 1, the tile or RAM that it belongs to, and what is wrong
pub record Fault : Type 0 where
  pub line : ℕ
  pub tile : Option TileXy
  pub cause : AscCause

abbrev pub fault_with : Option AscCause → ℕ → Option TileXy → Option Fault
fault_with None line tile = None
fault_with (Some cause) line tile = Some (record { line = line; tile = tile; cause = cause })

-- what is wrong with a line or the end, and where
abbrev pub fault_at : Layouts → List (List ℕ) → ℕ → Option Fault
fault_at layouts lines n = fault_with (cause_at layouts lines n) (n + 1) (tile_named (statement_over lines n))

-- the fault of the first faulty line, or of the end, under the layouts
unfoldable pub asc_fault_of : Layouts → List ℕ → Option Fault
asc_fault_of layouts text = let lines = lines_of text in first_below (length lines + 1) (fault_at layouts lines)

-- a fault other than out of memory is this one
abbrev pub Tells : Option Fault → AscFault → Type 0
Tells fault (At line tile cause) = fault ≡ Some (record { line = line; tile = tile; cause = cause })
Tells fault (Memory e) = Unit {0}
