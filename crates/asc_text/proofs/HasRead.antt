-- What the reader keeps is what the lines that it has read say.
use Rattle.std.proofs.Common.{◌≡◌, ℕ, ◌+◌, ◌-◌, ◌<◌, Bool, false, List}
use Rattle.std.specs.Prelude.{Option, Some, None, is_some}
use Rattle.text_lines.specs.Lines.{line_at}
use Rattle.index_search.specs.Places.{any_below, first_below, last_below}
use Rattle.plane_map.specs.declared.device.DeviceName.{DeviceName}
use Rattle.layout_file.specs.declared.layouts.Layouts.{Layouts}
use Rattle.layout_file.specs.Layouts.{layout_for, AreLayouts}
use Rattle.plane_map.specs.declared.tile.TileKind.TheVariants.{RamB}
use Rattle.ice_image.specs.Bits.{Bit, IsBit, bit_of}
use Rattle.ice_image.specs.Configuration.{IsWhole}
use Rattle.ice_image.specs.Either.{configuration_of, device_of}
use Rattle.ice_image.specs.declared.any.AnyImage.{AnyImage}
use Rattle.ice_image.specs.declared.settings.Range.{Range}
use Rattle.asc_text.specs.declared.statement.Statement.{Statement}
use Rattle.asc_text.specs.declared.statement.Statement.TheVariants.{Tile, RamData}
use Rattle.asc_text.specs.declared.reading.reader.Expected.{Expected}
use Rattle.asc_text.specs.declared.reading.reader.Expected.TheVariants.{Statement as AnyStatement, Row, Memory}
use Rattle.asc_text.specs.Statements.{statement_in}
use Rattle.asc_text.specs.inside.TileSets.{has_tile}
use Rattle.asc_text.specs.Blocks.{depth_at, statement_at, dot_before, is_comment, device_in}
use Rattle.asc_text.specs.Faults.{cause_at, is_in_comment, is_device, is_warm_boot, is_range, is_no_sleep, names_tile, names_ram}
use Rattle.asc_text.specs.Meaning.{warm_boot_in, range_in, no_sleep_in, comment_before, is_that_line, is_set_before}
use Rattle.asc_text.specs.inside.Reading.{ReaderState, HasKind}

-- where a line of what is expected stands
abbrev pub IsAt : List (List ℕ) → ℕ → ReaderState → Expected → Type 0
IsAt lines n s AnyStatement = depth_at lines n ≡ 0
IsAt lines n s (Row kind x y row) = (depth_at lines n ≡ row + 1) × (statement_in (line_at lines (n - (row + 1))) ≡ Some (Tile kind x y)) × HasKind s.image x y kind × (row < 16) × (s.in_comment ≡ false)
IsAt lines n s (Memory x y row) = (depth_at lines n ≡ row + 1) × (statement_in (line_at lines (n - (row + 1))) ≡ Some (RamData x y)) × HasKind s.image x y RamB × (row < 16) × (s.in_comment ≡ false)

-- what the statements before a line give first, and whether one of them gives it
pub record IsGiven (A : Type 0) (lines : List (List ℕ)) (n : ℕ) (setting : Option Statement → Option A) (test : Option Statement → Bool) (value : Option A) : Type 0 where
  pub first : first_below n (λ k. setting (statement_at lines k)) ≡ value
  pub given : any_below n (λ k. test (statement_at lines k)) ≡ is_some value

-- the tiles that the statements before a line name
abbrev pub AreNamed : List (List ℕ) → ℕ → (ℕ → ℕ → Option Statement → Bool) → List Bool → Type 0
AreNamed lines n names flags = (v w : ℕ) → v < 34 → w < 34 → has_tile flags v w ≡ any_below n (λ k. names v w (statement_at lines k))

-- the device of an image
abbrev pub device_known : Option AnyImage → Option DeviceName
device_known None = None
device_known (Some image) = Some (device_of image)

-- the image has the layout of its device, and the bits that the lines before a line set
pub record HasBits (layouts : Layouts) (lines : List (List ℕ)) (n : ℕ) (image : AnyImage) : Type 0 where
  pub layout : (configuration_of image).layout ≡ layout_for layouts (device_of image)
  pub whole : IsWhole (configuration_of image)
  pub bits : (bit : Bit) → IsBit (configuration_of image).layout bit → bit_of (configuration_of image) bit ≡ is_set_before lines n bit

-- no line before a line sets a bit
abbrev pub SetsNone : List (List ℕ) → ℕ → Type 0
SetsNone lines n = (bit : Bit) → is_set_before lines n bit ≡ false

abbrev pub HasImage : Layouts → List (List ℕ) → ℕ → Option AnyImage → Type 0
HasImage layouts lines n None = SetsNone lines n
HasImage layouts lines n (Some image) = HasBits layouts lines n image

-- where the last comment before a line begins
abbrev pub comment_start : List (List ℕ) → ℕ → Option ℕ
comment_start lines n = last_below n (λ k. is_comment (statement_at lines k))

-- the comment of the lines before a line, and whether that line is one of a comment if it is no statement
pub record HasComment (lines : List (List ℕ)) (n : ℕ) (comment : Option (List (List ℕ))) (in_comment : Bool) : Type 0 where
  pub lines_are : comment_before lines n ≡ comment
  pub is_in : is_in_comment lines (dot_before lines n) ≡ in_comment
  pub is_last : (start : ℕ) → comment_start lines n ≡ Some start → is_that_line (dot_before lines n) start ≡ in_comment

-- what the statements before a line give
pub record HasGiven (lines : List (List ℕ)) (n : ℕ) (s : ReaderState) : Type 0 where
  pub warm_boot : IsGiven Bool lines n warm_boot_in is_warm_boot s.warm_boot
  pub range : IsGiven Range lines n range_in is_range s.range
  pub no_sleep : IsGiven Bool lines n no_sleep_in is_no_sleep s.no_sleep
  pub device : IsGiven DeviceName lines n device_in is_device (device_known s.image)
  pub tiles : AreNamed lines n names_tile s.tiles
  pub rams : AreNamed lines n names_ram s.rams

-- the lines before a line were read, and none of them is faulty
pub record HasRead (layouts : Layouts) (lines : List (List ℕ)) (n : ℕ) (s : ReaderState) : Type 0 where
  pub devices : AreLayouts layouts
  pub under : s.layouts ≡ layouts
  pub fit : (k : ℕ) → k < n → cause_at layouts lines k ≡ None
  pub stands : IsAt lines n s s.expected
  pub given : HasGiven lines n s
  pub image : HasImage layouts lines n s.image
  pub comment : HasComment lines n s.comment s.in_comment
