-- The first faulty line of a database, with the first of its causes, and what a text without a fault means.
use Rattle.std.specs.Prelude.{◌≡◌, ℕ, ◌+◌, Bool, true, false, ◌&&◌, List, ◌∷◌, length, nat_le, bytes_eq, ◌==◌, if◌then◌else◌, Option, Some, None, Result, Ok, Err}
use Rattle.std.specs.List.{list_any}
use Rattle.std.specs.Result.{result_err}
use Rattle.text_lines.specs.Lines.{line_at, lines_of}
use Rattle.index_search.specs.Places.{any_below, first_below}
use Rattle.chipdb_lines.specs.declared.cause.DbCause.{DbCause}
use Rattle.chipdb_lines.specs.declared.cause.DbCause.TheVariants.{NoDevice, NetTwice, NameTwice, ValuesTwice}
use Rattle.chipdb_lines.specs.declared.chip.Chip.{Chip}
use Rattle.chipdb_lines.specs.Words.{is_statement}
use Rattle.chipdb_lines.specs.Statements.{Block, passed, of_device, global_inputs, global_pins, functions, extra_bits, names, buffers, routings, pll}
use Rattle.chipdb_lines.specs.Items.{NameLine, LinkChoice, name_of, function_of, extra_of, global_input_of, global_pin_of, choice_of}
use Rattle.chipdb_reader.specs.declared.fault.DbFault.{DbFault}
use Rattle.chipdb_reader.specs.declared.fault.DbFault.TheVariants.{At, Memory}
use Rattle.chipdb_reader.specs.Blocks.{chip_before, statement_at, block_over, own_words_at}
use Rattle.chipdb_reader.specs.Database.{Database, database_of, said_at, is_chosen_before, is_other_choice}

-- the cause, if the test passes
abbrev pub cause_if : Bool → DbCause → Option DbCause
cause_if true cause = Some cause
cause_if false cause = None

-- ---- statements

-- the net that the names below a statement belong to
abbrev pub net_in : Result Block DbCause → Option ℕ
net_in (Ok (names net)) = Some net
net_in statement = None

abbrev pub is_net : ℕ → Option ℕ → Bool
is_net net None = false
is_net net (Some other) = other == net

-- whether a statement before a place is `.net` with that net
unfoldable pub is_net_before : List (List ℕ) → ℕ → ℕ → Bool
is_net_before lines n net = any_below n (λ k. is_statement (line_at lines k) && is_net net (net_in (statement_at lines k)))

-- what is wrong with a statement
abbrev pub statement_cause : List (List ℕ) → ℕ → Result Block DbCause → Option DbCause
statement_cause lines n (Err cause) = Some cause
statement_cause lines n (Ok (names net)) = cause_if (is_net_before lines n net) NetTwice
statement_cause lines n (Ok block) = None

-- ---- other lines

abbrev pub is_same_name : NameLine → NameLine → Bool
is_same_name line other = (line.x == other.x) && (line.y == other.y) && bytes_eq line.name other.name

-- whether a line before a place gives that name at that place of the grid
unfoldable pub is_named_before : List (List ℕ) → ℕ → NameLine → Bool
is_named_before lines n line = any_below n (λ k. list_any (is_same_name line) (said_at lines k).names)

abbrev pub name_cause : List (List ℕ) → ℕ → Result NameLine DbCause → Option DbCause
name_cause lines n (Err cause) = Some cause
name_cause lines n (Ok line) = cause_if (is_named_before lines n line) NameTwice

abbrev pub choice_cause : List (List ℕ) → ℕ → Result LinkChoice DbCause → Option DbCause
choice_cause lines n (Err cause) = Some cause
choice_cause lines n (Ok choice) = cause_if (is_chosen_before lines n (is_other_choice choice)) ValuesTwice

-- what is wrong with a line that has words for the statement above it
abbrev pub item_cause : List (List ℕ) → ℕ → Chip → Block → List (List ℕ) → Option DbCause
item_cause lines n chip passed words = None
item_cause lines n chip (of_device given) words = None
item_cause lines n chip global_inputs words = result_err (global_input_of chip.device words)
item_cause lines n chip global_pins words = result_err (global_pin_of chip.device words)
item_cause lines n chip (functions kind) words = result_err (function_of kind words)
item_cause lines n chip extra_bits words = result_err (extra_of chip.device words)
item_cause lines n chip (names net) words = name_cause lines n (name_of chip.device net words)
item_cause lines n chip (buffers head) words = choice_cause lines n (choice_of chip.nets (length head.bits) words)
item_cause lines n chip (routings head) words = result_err (choice_of chip.nets (length head.bits) words)
item_cause lines n chip (pll x y) words = None

-- what is wrong with a line that isn't a statement
abbrev pub own_cause : List (List ℕ) → ℕ → Option Chip → Block → List (List ℕ) → Option DbCause
own_cause lines n (Some chip) block (word ∷ words) = item_cause lines n chip block (word ∷ words)
own_cause lines n chip block words = None

-- what is wrong with a text without a device
abbrev pub end_cause : Option Chip → Option DbCause
end_cause None = Some NoDevice
end_cause (Some chip) = None

-- ---- the whole

-- what is wrong with a line, or, after the last line, with the whole text
unfoldable pub cause_at : List (List ℕ) → ℕ → Option DbCause
cause_at lines n =
    if nat_le (length lines) n then end_cause (chip_before lines n)
    else if is_statement (line_at lines n) then statement_cause lines n (statement_at lines n)
    else own_cause lines n (chip_before lines n) (block_over lines n) (own_words_at lines n)

-- a line, counted from 1, and what is wrong with it
pub record Fault : Type 0 where
  pub line : ℕ
  pub cause : DbCause

abbrev pub fault_with : ℕ → Option DbCause → Option Fault
fault_with line (Some cause) = Some (record { line = line; cause = cause })
fault_with line None = None

-- the first faulty line, with the first of its causes; a text without a device is at fault at the line after its last
unfoldable pub fault_of_lines : List (List ℕ) → Option Fault
fault_of_lines lines = first_below (length lines + 1) (λ n. fault_with (n + 1) (cause_at lines n))

-- the fault of a text
unfoldable pub db_fault_of : List ℕ → Option Fault
db_fault_of bytes = fault_of_lines (lines_of bytes)

-- A text without a fault means what its lines give.
pub record DbMeans (bytes : List ℕ) (database : Database) : Type 0 where
  pub sound : db_fault_of bytes ≡ None
  pub device : chip_before (lines_of bytes) (length (lines_of bytes)) ≡ Some database.chip
  pub lines : database ≡ database_of database.chip (lines_of bytes)

-- the reported fault is that one; out of memory may come in place of any answer
abbrev pub Tells : Option Fault → DbFault → Type 0
Tells fault (At line cause) = fault ≡ Some (record { line = line; cause = cause })
Tells fault (Memory e) = Unit {0}
