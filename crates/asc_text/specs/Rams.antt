-- The lines of RAMs in a text: which lines are `.ram_data` statements, and the sixteen lines below each.
use Rattle.std.specs.Prelude.{◌≡◌, ℕ, ◌+◌, ◌-◌, ◌<◌, Bool, true, false, ◌&&◌, List, drop, bytes_eq, nat_lt, Option, Some}
use Rattle.text_lines.specs.Lines.{line_at, trimmed}
use Rattle.text_lines.specs.Words.{first_word}
use Rattle.text_lines.specs.declared.words.Separators.TheVariants.{Spaces}
use Rattle.asc_text.specs.declared.statement.Statement.{Statement}
use Rattle.asc_text.specs.declared.statement.Statement.TheVariants.{RamData}
use Rattle.asc_text.specs.Statements.{begins_with_dot, ram_data_keyword}
use Rattle.asc_text.specs.Rows.{is_memory_line}
use Rattle.asc_text.specs.Blocks.{depth_at, statement_over}

-- whether a statement is that of a RAM's contents
abbrev pub is_ram_data : Option Statement → Bool
is_ram_data (Some (RamData x y)) = true
is_ram_data statement = false

-- whether a line is one of the sixteen below the statement of a RAM's contents
abbrev pub is_in_ram : List (List ℕ) → ℕ → Bool
is_in_ram lines n = nat_lt 0 (depth_at lines n) && is_ram_data (statement_over lines n)

-- the lines below the statement among whose sixteen lines a line is
abbrev pub below_statement : List (List ℕ) → ℕ → List (List ℕ)
below_statement lines n = drop (n - depth_at lines n + 1) lines

-- whether a line begins as the statement of a RAM's contents does
abbrev pub is_ram_line : List ℕ → Bool
is_ram_line line = begins_with_dot line && bytes_eq (first_word Spaces (trimmed line)) ram_data_keyword

-- the first sixteen lines are those of a RAM
abbrev pub BeginsWithRam : List (List ℕ) → Type 0
BeginsWithRam lines = (row : ℕ) → row < 16 → is_memory_line (trimmed (line_at lines row)) ≡ true
