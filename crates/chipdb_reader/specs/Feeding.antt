-- What a reader has taken of a database that comes in pieces. A new reader stands for an empty text, `feed` adds a piece, and `finish` says
-- what the text means.
use Rattle.std.specs.Prelude.{◌≡◌, ℕ, ◌^◌, ◌<◌, ◌≤◌, List, length, Option, Some, None}
use Rattle.std.specs.Option.{ForNone}
use Rattle.std.specs.declared.alloc.AllocError.{AllocError}
use Rattle.text_lines.specs.declared.feed.LineFeed.{LineFeed}
use Rattle.text_lines.specs.Feeding.{StandsFor as FeedsTo, fed_with, refusal_of, taker_of}
use Rattle.chipdb_reader.specs.declared.fault.DbFault.{DbFault}
use Rattle.chipdb_reader.specs.declared.fault.DbFault.TheVariants.{At, Memory}
use Rattle.chipdb_reader.specs.declared.line_reader.LineReader.{LineReader}
use Rattle.chipdb_reader.specs.Faults.{Tells, fault_of_lines}
use Rattle.chipdb_reader.specs.Holds.{HasRead}

-- ---- lines

-- these lines were read, and they are counted
pub record HasTaken (lines : List (List ℕ)) (taker : LineReader) : Type 0 where
  pub read : HasRead lines taker.reader
  pub count_is : taker.count ≡ length lines

-- some lines were read
abbrev pub IsGoing : LineReader → Type 0
IsGoing taker = (lines : List (List ℕ)) × HasTaken lines taker

-- the lines that a taker has taken; there is only one setting
abbrev pub taken_by : Unit {0} → LineReader → List (List ℕ) → Type 0
taken_by setting taker lines = HasTaken lines taker

abbrev pub refused_with : Unit {0} → List (List ℕ) → DbFault → Type 0
refused_with setting lines fault = Tells (fault_of_lines lines) fault

-- ---- bytes

-- What contracts know of a reader: how many bytes were fed to it, and what became of their lines.
pub record Intake : Type 0 where
  pub fed : ℕ
  pub lines : LineFeed LineReader DbFault

-- no more lines and bytes are counted than were fed
pub record IsFed (fed : ℕ) (lines : LineFeed LineReader DbFault) : Type 0 where
  pub going : ForNone (refusal_of lines) (IsGoing (taker_of lines))
  pub within : ForNone (refusal_of lines) (fed_with (λ taker. taker.count) lines ≤ fed)
  pub limit : fed < 2 ^ 32

-- how many bytes were fed to a reader
abbrev pub fed_to : Intake → ℕ
fed_to reader = reader.fed

-- out of memory, if that is the refusal
abbrev pub lack_in : Option DbFault → Option AllocError
lack_in (Some (Memory e)) = Some e
lack_in (Some (At line cause)) = None
lack_in None = None

-- out of memory, if the reader ran into it
abbrev pub lack_of : Intake → Option AllocError
lack_of reader = lack_in (refusal_of reader.lines)

-- A reader stands for a text if exactly its bytes were fed. Then it has read them, or knows a fault that every text with this beginning
-- has, or ran out of memory.
pub record StandsFor (text : List ℕ) (reader : Intake) : Type 0 where
  pub fed : reader.fed ≡ length text
  pub has : FeedsTo taken_by refused_with tt text reader.lines

-- the text that a taker of pieces has taken; there is only one setting
abbrev pub stands_for : Unit {0} → Intake → List ℕ → Type 0
stands_for setting reader text = StandsFor text reader
