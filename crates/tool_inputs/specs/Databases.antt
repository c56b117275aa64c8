-- A chip database that a tool loaded.
use Rattle.std.specs.Prelude.{◌≡◌, ℕ, List, [], length, Option, None, Some, Result, Ok, Err}
use Rattle.text_lines.specs.Lines.{lines_of}
use Rattle.chipdb_lines.specs.declared.chip.Chip.{Chip}
use Rattle.chipdb_reader.specs.Blocks.{chip_before}
use Rattle.chipdb_reader.specs.Database.{Database, database_of}
use Rattle.chipdb_reader.specs.Faults.{Fault, db_fault_of}
use Rattle.tool_run.specs.Lines.{refusal_text}
use Rattle.tool_run.specs.declared.tool.Stop.{Stop}
use Rattle.tool_run.specs.declared.tool.Stop.TheVariants.{Refused, Quiet, UsageError, Memory}
use Rattle.tool_inputs.specs.Faults.{db_fault_text}

-- the most bytes that a database may have
abbrev pub database_limit : ℕ
database_limit = 268435456

-- the database that these lines give, if they name a device; each text without a fault names one
abbrev pub database_with : List (List ℕ) → Option Chip → Result Database (List ℕ)
database_with lines None = Err []
database_with lines (Some chip) = Ok (database_of chip lines)

abbrev pub database_by : List (List ℕ) → Option Fault → Result Database (List ℕ)
database_by lines (Some fault) = Err (db_fault_text fault.line fault.cause)
database_by lines None = database_with lines (chip_before lines (length lines))

-- the database that a text means, or the message for its first fault
unfoldable pub database_read : List ℕ → Result Database (List ℕ)
database_read bytes = database_by (lines_of bytes) (db_fault_of bytes)

-- if no database is read, a refusal has the message for its fault, and out of memory is free
abbrev pub StopsDatabase : Result Database (List ℕ) → Stop → Type 0
StopsDatabase read (Refused refusal) = read ≡ Err (refusal_text refusal)
StopsDatabase read Quiet = ⊥
StopsDatabase read (UsageError refusal) = ⊥
StopsDatabase read Memory = Unit {0}
