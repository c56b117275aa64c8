-- What a command line asks for, done on files and on an input that are known, if nothing fails from outside.
use Rattle.std.specs.Prelude.{ℕ, Bool, false, bytes_eq, codes, List, [], ◌∷◌, drop, get_or, length, nat_lt, if◌then◌else◌, Option, None, Some, Result, Ok, Err}
use Rattle.std.specs.FinMap.{get}
use Rattle.ice_io.specs.Files.{FileMap}
use Rattle.tool_run.specs.Needs.{Need, reads_files, reads_input, with_layout}
use Rattle.tool_run.specs.Lines.{line_of, read_failed, too_long, usage_text}

-- what a tool makes of what it read: the bytes for its target and those for the file beside it, or why it refuses, or that it refuses and
-- says nothing, or that the command line isn't taken
pub data Answer : Type 0 where
  Both : List ℕ → List ℕ → Answer
  Refused : List ℕ → Answer
  Quiet : Answer
  UsageError : List ℕ → Answer

-- the bytes for the target, and none for a file beside it
abbrev pub Done : List ℕ → Answer
Done bytes = Both bytes []

-- who speaks, what is read, in order, the file that is stored beside the target, if there is one, the target, which is a file that is
-- stored, or none for standard output, and what is made of what was read
pub record Task : Type 0 where
  pub tool_name : List ℕ
  pub needs : List Need
  pub beside : Option (List ℕ)
  pub target : Option (List ℕ)
  pub answer : List (List ℕ) → Answer

-- a task with no file beside its target
abbrev pub plain_task : List ℕ → List Need → Option (List ℕ) → (List (List ℕ) → Answer) → Task
plain_task tool_name needs target answer = record { tool_name = tool_name; needs = needs; beside = None; target = target; answer = answer }

-- a task that also stores this file beside its target, if one is named
abbrev pub beside_task : Option (List ℕ) → Task → Task
beside_task file task = record task { beside = file }

-- what is said of a layout file, if one is named, and of other texts, said of the texts of all needs: the first of them is the layout
-- file if one is named
abbrev pub layout_first {ℓ} : {A : Type ℓ} → Option (List ℕ) → (Option (List ℕ) → List (List ℕ) → A) → List (List ℕ) → A
layout_first None said = said None
layout_first (Some file) said = λ texts. said (Some (get_or texts 0 [])) (drop 1 texts)

-- a task that reads a layout file before its other needs, if one is named
abbrev pub layout_task : List ℕ → Option (List ℕ) → List Need → Option (List ℕ) → (Option (List ℕ) → List (List ℕ) → Answer) → Task
layout_task tool_name layout needs target answer = plain_task tool_name (with_layout layout needs) target (layout_first layout answer)

-- a task that reads nothing
abbrev pub at_once : List ℕ → Option (List ℕ) → Answer → Task
at_once tool_name target answer = plain_task tool_name [] target (λ texts. answer)

-- a command line that isn't taken: the one that would be is told
abbrev pub usage_error : List ℕ → List ℕ → Task
usage_error tool_name usage = at_once tool_name None (UsageError (usage_text usage))

-- whether a tool is asked for its help: by the word `--help` alone after its name
abbrev pub asks_for_help : List (List ℕ) → Bool
asks_for_help [] = false
asks_for_help (tool ∷ []) = false
asks_for_help (tool ∷ word ∷ []) = bytes_eq word (codes "--help")
asks_for_help (tool ∷ word ∷ next ∷ args) = false

-- the help of a tool if it is asked for, and else a task
abbrev pub helped : List ℕ → List ℕ → List (List ℕ) → Task → Task
helped tool_name help args task = if asks_for_help args then at_once tool_name None (Done help) else task

-- why a need couldn't be read: there is no such file, or it has more bytes than its limit
pub data LoadFault : Type 0 where
  Missing : Need → LoadFault
  TooLong : Need → LoadFault

-- bytes within the limit of their need
abbrev pub limited : Need → List ℕ → Result (List ℕ) LoadFault
limited need bytes = if nat_lt need.limit (length bytes) then Err (TooLong need) else Ok bytes

-- the bytes of a file that may be missing
abbrev pub found : Need → Option (List ℕ) → Result (List ℕ) LoadFault
found need None = Err (Missing need)
found need (Some bytes) = limited need bytes

-- the bytes of standard input, or of a file
abbrev pub bytes_by : FileMap → List ℕ → Need → Option (List ℕ) → Result (List ℕ) LoadFault
bytes_by files input need None = limited need input
bytes_by files input need (Some name) = found need (get files name)

-- the bytes of a need
abbrev pub bytes_of : FileMap → List ℕ → Need → Result (List ℕ) LoadFault
bytes_of files input need = bytes_by files input need need.name

-- bytes before others, if each of them could be read
abbrev pub with_first : List ℕ → Result (List (List ℕ)) LoadFault → Result (List (List ℕ)) LoadFault
with_first first (Ok others) = Ok (first ∷ others)
with_first first (Err fault) = Err fault

-- the first of several, and the others if it could be read
abbrev pub loaded_after : Result (List ℕ) LoadFault → Result (List (List ℕ)) LoadFault → Result (List (List ℕ)) LoadFault
loaded_after (Ok first) others = with_first first others
loaded_after (Err fault) others = Err fault

-- the bytes of each need, in order; the first that can't be read decides
abbrev pub loaded : FileMap → List ℕ → List Need → Result (List (List ℕ)) LoadFault
loaded files input [] = Ok []
loaded files input (need ∷ needs) = loaded_after (bytes_of files input need) (loaded files input needs)

-- the others, if the first could be read
abbrev pub reached_after : Result (List ℕ) LoadFault → List Need → List Need
reached_after (Ok first) others = others
reached_after (Err fault) others = []

-- the needs that are read: those up to the first that can't be
abbrev pub reached : FileMap → List ℕ → List Need → List Need
reached files input [] = []
reached files input (need ∷ needs) = need ∷ reached_after (bytes_of files input need) (reached files input needs)

-- the status, whether a file and whether standard input is read, the file beside the target, if there is one, and the bytes for it, the
-- target, a file or none for standard output, and the bytes for it, and the line for standard error, if there is one
pub record Outcome : Type 0 where
  pub status : ℕ
  pub reads_files : Bool
  pub reads_input : Bool
  pub beside : Option (List ℕ)
  pub beside_bytes : List ℕ
  pub target : Option (List ℕ)
  pub bytes : List ℕ
  pub message : Option (List ℕ)

abbrev pub ending : Task → List Need → ℕ → List ℕ → List ℕ → Option (List ℕ) → Outcome
ending task needs status bytes beside message = record {
  status = status;
  reads_files = reads_files needs;
  reads_input = reads_input needs;
  beside = task.beside;
  beside_bytes = beside;
  target = task.target;
  bytes = bytes;
  message = message;
}

abbrev pub answered : Task → List Need → Answer → Outcome
answered task needs (Both bytes beside) = ending task needs 0 bytes beside None
answered task needs (Refused text) = ending task needs 1 [] [] (Some (line_of task.tool_name text))
answered task needs Quiet = ending task needs 1 [] [] None
answered task needs (UsageError text) = ending task needs 2 [] [] (Some (line_of task.tool_name text))

abbrev pub ended : Task → List Need → Result (List (List ℕ)) LoadFault → Outcome
ended task needs (Ok texts) = answered task needs (task.answer texts)
ended task needs (Err (Missing need)) = ending task needs 3 [] [] (Some (line_of task.tool_name (read_failed need)))
ended task needs (Err (TooLong need)) = ending task needs 6 [] [] (Some (line_of task.tool_name (too_long need)))

-- the outcome of a task, on files and an input
abbrev pub outcome_of : Task → FileMap → List ℕ → Outcome
outcome_of task files input = ended task (reached files input task.needs) (loaded files input task.needs)
