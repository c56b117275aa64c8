-- Devices, statements and blocks, one line further.
use Rattle.std.proofs.Common.{◌≡◌, ℕ, ◌+◌, true, false, List, [], drop, get_or, refl, ap, ◌∙◌}
use Rattle.std.specs.Prelude.{Option, Some, None, Result, Ok}
use Rattle.std.specs.Result.{result_unwrap_or}
use Rattle.text_lines.specs.Lines.{line_at}
use Rattle.index_search.specs.Places.{or_else}
use Rattle.index_search.proofs.Places.{last_below-more, first_below-more, or_else-none}
use Rattle.chipdb_lines.specs.declared.cause.DbCause.{DbCause}
use Rattle.chipdb_lines.specs.declared.chip.Chip.{Chip}
use Rattle.chipdb_lines.specs.declared.keyword.Keyword.{Keyword}
use Rattle.chipdb_lines.specs.declared.keyword.Keyword.TheVariants.{Device, GlobalInputs, GlobalPins, Tile, TileBits, ExtraBits, Net, Buffer, Routing, ExtraCell}
use Rattle.chipdb_lines.specs.Words.{is_statement, words_in}
use Rattle.chipdb_lines.specs.Statements.{Block, passed, of_device, block_by, device_block, chip_of_words, keyword_of, statement_of}
use Rattle.chipdb_reader.specs.Blocks.{chip_by, chip_in, chip_before, statement_at, statement_over, block_over, block_by as block_at_place}

-- ---- the device

-- the device after a statement
abbrev pub chip_after : Option Chip → Block → Option Chip
chip_after chip (of_device given) = Some given
chip_after chip block = chip

-- a line that is no statement gives no device
pub chip-own : (lines : List (List ℕ)) (n : ℕ) → is_statement (line_at lines n) ≡ false → chip_before lines (n + 1) ≡ chip_before lines n
unfolding chip_before chip_in
chip-own lines n own =
    let none : chip_in (line_at lines n) ≡ None = rw own refl in
    first_below-more n (λ k. chip_in (line_at lines k)) ∙ ap (or_else (chip_before lines n)) none ∙ or_else-none (chip_before lines n)

-- a statement, one line further
pub chip-statement : (lines : List (List ℕ)) (n : ℕ) → chip_before lines (n + 1) ≡ or_else (chip_before lines n) (chip_in (line_at lines n))
unfolding chip_before
chip-statement lines n = first_below-more n (λ k. chip_in (line_at lines k))

-- ---- statements

-- a line that is no statement belongs to the same statement as the line before it
pub over-own : (lines : List (List ℕ)) (n : ℕ) → is_statement (line_at lines n) ≡ false → statement_over lines (n + 1) ≡ statement_over lines n
unfolding statement_over
over-own lines n own = last_below-more n (λ k. is_statement (line_at lines k)) ∙ rw own refl

-- the next line is below a statement
pub over-statement : (lines : List (List ℕ)) (n : ℕ) → is_statement (line_at lines n) ≡ true → statement_over lines (n + 1) ≡ Some n
unfolding statement_over
over-statement lines n dot = last_below-more n (λ k. is_statement (line_at lines k)) ∙ rw dot refl

pub block-own : (lines : List (List ℕ)) (n : ℕ) → is_statement (line_at lines n) ≡ false → block_over lines (n + 1) ≡ block_over lines n
unfolding block_over
block-own lines n own = ap (block_at_place lines) (over-own lines n own)

pub block-statement : (lines : List (List ℕ)) (n : ℕ) (block : Block) → is_statement (line_at lines n) ≡ true → statement_at lines n ≡ Ok block → block_over lines (n + 1) ≡ block
unfolding block_over
block-statement lines n block dot says =
    ap (block_at_place lines) (over-statement lines n dot) ∙ ap (λ (said : Result Block DbCause). result_unwrap_or said passed) says

-- ---- what a statement gives

-- the device that a statement gives
abbrev pub device_of : Block → Option Chip
device_of (of_device given) = Some given
device_of block = None

given_by : (given : Option Chip) (block : Block) → device_block given ≡ Ok block → given ≡ device_of block
given_by (Some chip) block says = let same : of_device chip ≡ block = cc in ap device_of same
given_by None block says = absurd cc

device_by : (keyword : Option Keyword) (words : List (List ℕ)) (block : Block) → block_by None keyword words ≡ Ok block → chip_by keyword words ≡ device_of block
device_by None words block says = let same : passed ≡ block = cc in ap device_of same
device_by (Some Device) words block says = given_by (chip_of_words words) block says
device_by (Some GlobalInputs) words block says = absurd cc
device_by (Some GlobalPins) words block says = absurd cc
device_by (Some (Tile kind)) words block says = absurd cc
device_by (Some (TileBits kind)) words block says = absurd cc
device_by (Some ExtraBits) words block says = absurd cc
device_by (Some Net) words block says = absurd cc
device_by (Some Buffer) words block says = absurd cc
device_by (Some Routing) words block says = absurd cc
device_by (Some ExtraCell) words block says = let same : passed ≡ block = cc in ap device_of same

-- the device is given by a line before, or else by the statement
pub chip-given : (chip : Option Chip) (line : List ℕ) (block : Block) → is_statement line ≡ true → statement_of chip (words_in line) ≡ Ok block
    → or_else chip (chip_in line) ≡ or_else chip (device_of block)
unfolding chip_in statement_of
chip-given (Some chip) line block dot says = refl
chip-given None line block dot says =
    let given : chip_by (keyword_of (get_or (words_in line) 0 [])) (drop 1 (words_in line)) ≡ device_of block =
    device_by (keyword_of (get_or (words_in line) 0 [])) (drop 1 (words_in line)) block says in
    rw dot given
