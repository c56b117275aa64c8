-- What a run of a task appends to standard output.
use Rattle.std.specs.Prelude.{ℕ, List, Option}
use Rattle.std.specs.Io.KnownBytes.{Appends}
use Rattle.tool_run.specs.Loads.{AreTextsOf}
use Rattle.tool_run.specs.Runs.{Outside, Scene}
use Rattle.tool_run.specs.Tasks.{Task, layout_first}

-- Bytes were appended to standard output, and P holds of them and of texts that the task may have read: one for each need, within its
-- limit. Where files and standard input tell their contents, the texts are these.
abbrev pub AppendsFor : {F I O E : Type 0} → Outside F I O E → (List (List ℕ) → List ℕ → Type 0) → Task → Scene F I O E → Scene F I O E → Type 0
AppendsFor by P task old new =
    (bytes : List ℕ) × Appends (by.held old.output) (by.held new.output) bytes
    × ((texts : List (List ℕ)) × AreTextsOf (by.contents old.files) (by.left old.input) task.needs texts × P texts bytes)

-- P holds of a layout file, if one is named, of the other texts, and of bytes. The texts are those of all needs of a `layout_task`, so the
-- first of them is the layout file if one is named.
abbrev pub UnderLayout : Option (List ℕ) → (Option (List ℕ) → List (List ℕ) → List ℕ → Type 0) → List (List ℕ) → List ℕ → Type 0
UnderLayout layout P = layout_first layout P
