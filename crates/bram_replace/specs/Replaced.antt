-- A text with the contents of its RAMs replaced, from two files of memory words: each column of a RAM that is equal to a
-- column of the first file becomes the column of the same index of the second file, as the usage text of Project IceStorm's `icebram`
-- says. In mode 0, the mode of every RAM if modes aren't followed, a column of a RAM is one bit of its 256 words.
use Rattle.std.specs.Prelude.{◌≡◌, ℕ, ◌+◌, ◌-◌, ◌*◌, ◌/◌, ◌%◌, Bool, not, ◌&&◌, List, [], ◌∷◌, ◌++◌, length, drop, map, ◌==◌, if◌then◌else◌, Option, Some, None}
use Rattle.std.specs.List.{range_with_len}
use Rattle.index_search.specs.Places.{any_below, gathered_below, or_else}
use Rattle.text_lines.specs.Lines.{lines_of, whole_lines_of, line_at, trimmed}
use Rattle.hex.specs.Hex.{encode_lower}
use Rattle.bit_plane.specs.BitList.{word_of}
use Rattle.layout_file.specs.Layouts.{standard_layouts}
use Rattle.asc_text.specs.declared.fault.AscFault.TheVariants.{At}
use Rattle.asc_text.specs.Rows.{memory_bit}
use Rattle.asc_text.specs.Blocks.{depth_at, statement_at, statement_over}
use Rattle.asc_text.specs.Rams.{is_ram_data, is_in_ram, below_statement}
use Rattle.asc_text.specs.Faults.{Fault, asc_fault_of, tile_named}
use Rattle.asc_text.specs.Canonical.{two_bytes}
use Rattle.bram_replace.specs.declared.fault.BramFault.{BramFault}
use Rattle.bram_replace.specs.declared.fault.BramFault.TheVariants.{Shape, Asc, Memory}
use Rattle.bram_replace.specs.HexText.{Contents}
use Rattle.bram_replace.specs.ReadModes.{RamBits, Modes, mode_for, by_columns, column_in, place_in}
use Rattle.bram_replace.specs.Columns.{column_bit, column_at, column_count, column_from, is_same, is_same_bit, match_of, same_fault}

-- ---- one RAM

-- the bits that the lines below a statement give, sixteen words to a line
abbrev pub ram_bits : List (List ℕ) → RamBits
ram_bits below word bit = memory_bit (trimmed (line_at below (word / 16))) (word % 16) bit

-- a column, from the bits of the columns
abbrev pub ram_column : RamBits → ℕ → List Bool
ram_column bits column = column_from (λ place. bits place column)

-- the bit of a column of the second file, or the old one if no column of the first file is equal
abbrev pub bit_from : Contents → Option ℕ → ℕ → Bool → Bool
bit_from to None word old = old
bit_from to (Some column) word old = column_bit to column word

-- the bits of a RAM of a mode afterwards
abbrev pub bits_after : Contents → Contents → ℕ → RamBits → RamBits
bits_after from to mode before word bit =
    bit_from to (match_of from (ram_column (by_columns mode before) (column_in mode word bit))) (place_in mode word bit) (before word bit)

-- a column of a RAM, if it is equal to a column of the first file
abbrev pub column_found : Contents → RamBits → ℕ → ℕ → List ℕ
column_found from bits column own = if is_same (column_at from column) (ram_column bits own) then own ∷ [] else []

-- all such columns
abbrev pub columns_found : Contents → RamBits → ℕ → List ℕ
columns_found from bits column = gathered_below 16 (column_found from bits column)

-- ---- lines of a RAM

-- whether a word of a line changes
abbrev pub changes : RamBits → RamBits → ℕ → Bool
changes before after row =
    any_below 16 (λ index. any_below 16 (λ bit. not (is_same_bit (before (16 * row + index) bit) (after (16 * row + index) bit))))

-- a word
abbrev pub word_with : RamBits → ℕ → ℕ
word_with bits word = word_of (map (bits word) (range_with_len 0 16))

-- the digits of a line, in lower case: sixteen words, the first word at the right
abbrev pub digits_with : RamBits → ℕ → List ℕ
digits_with bits row = encode_lower (gathered_below 16 (λ place. two_bytes (word_with bits (16 * row + (15 - place)))))

-- A line afterwards, from the line with its end: a line whose words all stay is unchanged, and of any other line the text
-- after the 64 digits stays.
abbrev pub memory_line_with : RamBits → RamBits → ℕ → List ℕ → List ℕ
memory_line_with before after row whole =
    if changes before after row then digits_with after row ++ drop 64 whole else whole

-- ---- the whole text

-- a line afterwards, with its end: only the lines of a RAM change
unfoldable pub line_after : Contents → Contents → Modes → List ℕ → ℕ → List ℕ
line_after from to modes text n =
    let lines = lines_of text in
    let whole = line_at (whole_lines_of text) n in
    let before = ram_bits (below_statement lines n) in
    let after = bits_after from to (mode_for modes (tile_named (statement_over lines n))) before in
    if is_in_ram lines n then memory_line_with before after (depth_at lines n - 1) whole else whole

-- the text with the RAMs replaced, each in its mode
unfoldable pub replaced : List ℕ → Contents → Contents → Modes → List ℕ
replaced text from to modes = gathered_below (length (lines_of text)) (line_after from to modes text)

-- the columns of the RAM that a line begins which are equal to a column of the first file
abbrev pub found_at : Contents → Modes → List (List ℕ) → ℕ → ℕ → List ℕ
found_at from modes lines column n =
    let bits = by_columns (mode_for modes (tile_named (statement_at lines n))) (ram_bits (drop (n + 1) lines)) in
    if is_ram_data (statement_at lines n) then columns_found from bits column else []

-- how many columns are equal to a column of the first file, in the RAMs that begin before a line
abbrev pub count_before : Contents → Modes → List (List ℕ) → ℕ → ℕ → ℕ
count_before from modes lines n column = length (gathered_below n (found_at from modes lines column))

-- how many columns of all RAMs are equal to each column of the first file
unfoldable pub found_in : List ℕ → Contents → Modes → List ℕ
found_in text from modes =
    let lines = lines_of text in map (count_before from modes lines (length lines)) (range_with_len 0 (column_count from))

-- ---- refusals

-- files that differ in the number of digits or of words
abbrev pub shape_fault : Contents → Contents → Option BramFault
shape_fault from to = if (from.digits == to.digits) && (length from.words == length to.words) then None else Some Shape

-- the fault of a text as a cause
abbrev pub text_fault : Option Fault → Option BramFault
text_fault None = None
text_fault (Some fault) = Some (Asc (At fault.line fault.tile fault.cause))

-- the first cause that applies
abbrev pub bram_fault : List ℕ → Contents → Contents → Option BramFault
bram_fault text from to = or_else (shape_fault from to) (or_else (same_fault from) (text_fault (asc_fault_of standard_layouts text)))

-- a refusal is this one, unless memory ran out
abbrev pub TellsBram : Option BramFault → BramFault → Type 0
TellsBram fault (Memory e) = Unit {0}
TellsBram fault told = fault ≡ Some told
