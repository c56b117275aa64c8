-- Which statement a line belongs to, and what the line says for it. Lines are counted from 0 here. Source: Project IceStorm, 'icebox chip
-- database'.
use Rattle.std.specs.Prelude.{ℕ, List, [], drop, get_or, if◌then◌else◌, Option, Some, None, Result}
use Rattle.std.specs.Result.{result_unwrap_or}
use Rattle.text_lines.specs.Lines.{line_at}
use Rattle.index_search.specs.Places.{last_below, first_below}
use Rattle.chipdb_lines.specs.declared.cause.DbCause.{DbCause}
use Rattle.chipdb_lines.specs.declared.chip.Chip.{Chip}
use Rattle.chipdb_lines.specs.declared.keyword.Keyword.{Keyword}
use Rattle.chipdb_lines.specs.declared.keyword.Keyword.TheVariants.{Device}
use Rattle.chipdb_lines.specs.Words.{is_statement, own_words, words_in}
use Rattle.chipdb_lines.specs.Statements.{Block, passed, chip_of_words, keyword_of, statement_of}

-- ---- the device

-- the device that a statement gives
abbrev pub chip_by : Option Keyword → List (List ℕ) → Option Chip
chip_by (Some Device) words = chip_of_words words
chip_by keyword words = None

-- the device that a line gives
unfoldable pub chip_in : List ℕ → Option Chip
chip_in line = if is_statement line then chip_by (keyword_of (get_or (words_in line) 0 [])) (drop 1 (words_in line)) else None

-- the device that some line before a place gives
unfoldable pub chip_before : List (List ℕ) → ℕ → Option Chip
chip_before lines n = first_below n (λ k. chip_in (line_at lines k))

-- ---- statements

-- what the statement at a place says
unfoldable pub statement_at : List (List ℕ) → ℕ → Result Block DbCause
statement_at lines n = statement_of (chip_before lines n) (words_in (line_at lines n))

-- the place of the statement that a line belongs to: the last statement before the line
unfoldable pub statement_over : List (List ℕ) → ℕ → Option ℕ
statement_over lines n = last_below n (λ k. is_statement (line_at lines k))

-- what the statement at that place says, if there is one
abbrev pub block_by : List (List ℕ) → Option ℕ → Block
block_by lines None = passed
block_by lines (Some place) = result_unwrap_or (statement_at lines place) passed

-- what the statement says that a line belongs to
unfoldable pub block_over : List (List ℕ) → ℕ → Block
block_over lines n = block_by lines (statement_over lines n)

-- the words that the line at a place has for the statement above it
abbrev pub own_words_at : List (List ℕ) → ℕ → List (List ℕ)
own_words_at lines n = own_words (line_at lines n)
