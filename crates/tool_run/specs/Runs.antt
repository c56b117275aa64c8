-- What a run of a task does, whatever the task is.
use Rattle.std.specs.Prelude.{◌≡◌, ◌≢◌, ◌⊎◌, ℕ, ◌≤◌, Bool, true, false, List, Option, None}
use Rattle.std.specs.Io.KnownBytes.{IsAtEnd}
use Rattle.ice_io.specs.Faults.{Rose}
use Rattle.ice_io.specs.Files.{FileMap}
use Rattle.tool_run.specs.Counts.{Counts}
use Rattle.tool_run.specs.Needs.{Need, is_stream, reads_files, reads_input}
use Rattle.tool_run.specs.Lines.{line_of, out_of_memory, read_failed, too_long}
use Rattle.tool_run.specs.Tasks.{Answer, Both, Refused, Quiet, UsageError, Outcome, Task}
use Rattle.tool_run.specs.Effects.{Delivers, FailsToDeliver, Foretells, Speaks, Writes, with_beside}
use Rattle.tool_run.specs.Loads.{AreTextsOf, FailsToLoad, PassesLimit}

-- how clauses read the files, the input, the output and the errors of a run. Of loads and of reads of the input are counted those that
-- failed, and the bytes that were read; of stores those that failed, and those that were begun
pub record Outside (F I O E : Type 0) : Type 0 where
  pub contents : F → Option FileMap
  pub steady : F → Bool
  pub loads : F → Counts
  pub stores : F → Counts
  pub left : I → Option (List ℕ)
  pub reads : I → Counts
  pub held : O → Option (List ℕ)
  pub output_faults : O → ℕ
  pub said : E → Option (List ℕ)
  pub error_faults : E → ℕ

abbrev pub outside : {F I O E : Type 0} → (F → Option FileMap) → (F → Bool) → (F → Counts) → (F → Counts) → (I → Option (List ℕ)) → (I → Counts) → (O → Option (List ℕ)) → (O → ℕ) → (E → Option (List ℕ)) → (E → ℕ) → Outside F I O E
outside contents steady loads stores left reads held output_faults said error_faults = record {
  contents = contents;
  steady = steady;
  loads = loads;
  stores = stores;
  left = left;
  reads = reads;
  held = held;
  output_faults = output_faults;
  said = said;
  error_faults = error_faults;
}

-- the files and the streams of a run
pub record Scene (F I O E : Type 0) : Type 0 where
  pub files : F
  pub input : I
  pub output : O
  pub errors : E

abbrev pub scene : {F I O E : Type 0} → F → I → O → E → Scene F I O E
scene files input output errors = record { files = files; input = input; output = output; errors = errors }

-- the statuses of a refusal: by the tool, of the command line, for too many bytes
abbrev pub IsRefusal : ℕ → Type 0
IsRefusal status = (status ≡ 1) ⊎ (status ≡ 2) ⊎ (status ≡ 6)

-- the status is the outcome's, or memory ran out, or a read failed, or the target took not all of what was made
abbrev pub IsStatusFor : ℕ → Outcome → Type 0
IsStatusFor status o = (status ≡ o.status) ⊎ (status ≡ 5) ⊎ (status ≡ 3) ⊎ ((status ≡ 4) × (o.status ≡ 0))

-- the outcome delivers these bytes, and these beside its target
abbrev pub HasBytes : List ℕ → List ℕ → Outcome → Type 0
HasBytes bytes beside o = (o.status ≡ 0) × (o.bytes ≡ bytes) × (o.beside_bytes ≡ beside)

-- the task stores no file
abbrev pub StoresNoFile : Task → Type 0
StoresNoFile task = (task.beside ≡ None) × (task.target ≡ None)

module _ {F I O E : Type 0} where
  -- this line was written to standard error, or a part of it
  abbrev pub Says : Outside F I O E → Scene F I O E → Scene F I O E → List ℕ → Type 0
  Says by old new line = Writes line (by.said old.errors) (by.said new.errors) (by.error_faults old.errors) (by.error_faults new.errors)

  -- this message was written so, if there is one; without one standard error is as it was
  abbrev pub SaysIfAny : Outside F I O E → Scene F I O E → Scene F I O E → Option (List ℕ) → Type 0
  SaysIfAny by old new message = Speaks message by.said by.error_faults old.errors new.errors

  -- the outcome of the task, as far as it is told before the run, has P
  abbrev pub Foresees : Outside F I O E → Task → Scene F I O E → (Outcome → Type 0) → Type 0
  Foresees by task old P = Foretells task (by.contents old.files) (by.left old.input) P

  -- the task makes this answer of texts that its needs may have: one for each, within its limit, and the told ones if they are told
  abbrev pub Makes : Outside F I O E → Task → Scene F I O E → Answer → Type 0
  Makes by task old answer = (texts : List (List ℕ)) × AreTextsOf (by.contents old.files) (by.left old.input) task.needs texts × (task.answer texts ≡ answer)

  -- a need of the task failed to be read, and its line is written. It is standard input only if the outcome reads it
  pub record FailsToRead (by : Outside F I O E) (task : Task) (old new : Scene F I O E) (need : Need) : Type 0 where
    pub fails : FailsToLoad (by.contents old.files) (by.steady old.files) by.left by.reads task.needs (by.loads old.files) (by.loads new.files) old.input new.input need
    pub line : Says by old new (line_of task.tool_name (read_failed need))
    pub input : is_stream need.name ≡ true → Foresees by task old (λ o. o.reads_input ≡ true)

  -- the run of a task with this status. What files and input tell foresees its outcome; what they don't tell may be any texts, and the
  -- status has its cause in these
  pub record Does (by : Outside F I O E) (task : Task) (status : ℕ) (old new : Scene F I O E) : Type 0 where
    pub statuses : status ≤ 6
    -- 0: the outcome was delivered whole, that is, what the tool makes of texts: first the file beside the target, if there is one, and
    -- then the bytes for the target; the input was read to the end, and nothing was said
    pub whole : status ≡ 0 → (bytes : List ℕ) × (beside : List ℕ)
        × Delivers task.target bytes (with_beside (by.contents old.files) task.beside beside) (by.contents new.files) (by.held old.output) (by.held new.output)
        × Foresees by task old (HasBytes bytes beside)
        × Makes by task old (Both bytes beside)
    pub end : status ≡ 0 → reads_input task.needs ≡ true → IsAtEnd (by.left new.input)
    pub silent : status ≡ 0 → new.errors ≡ old.errors
    -- 1, 2 and 6: the outcome's status, and its line, if it has one
    pub refused : IsRefusal status → Foresees by task old (λ o. (o.status ≡ status) × SaysIfAny by old new o.message)
    -- 1: the tool refuses texts, and its line says so, or it is quiet about texts, and nothing was said
    pub refusal : status ≡ 1 →
        ((said : List ℕ) × Makes by task old (Refused said) × Says by old new (line_of task.tool_name said))
        ⊎ (Makes by task old Quiet × (new.errors ≡ old.errors))
    -- 2: the tool doesn't take the command line, and its line says so
    pub usage : status ≡ 2 → (said : List ℕ) × Makes by task old (UsageError said) × Says by old new (line_of task.tool_name said)
    -- 6: a need passes its limit, and its line says so
    pub longer : status ≡ 6 → (need : Need)
        × PassesLimit (by.contents old.files) by.left by.reads task.needs (by.loads old.files) (by.loads new.files) old.input new.input need
        × Says by old new (line_of task.tool_name (too_long need))
    -- 3: a read failed. Over steady files it is the outcome's, unless standard input failed that the outcome reads
    pub read : status ≡ 3 → (need : Need) × FailsToRead by task old new need
    pub steady : status ≡ 3 → by.steady old.files ≡ true → Foresees by task old (λ o.
        (o.reads_input ≡ true → Rose (by.reads old.input).faults (by.reads new.input).faults → ⊥)
        → (o.status ≡ 3) × SaysIfAny by old new o.message)
    -- 4: the file beside the target, or the target after it, took only a part of what was made; its count rose, and its line says so
    pub part : status ≡ 4 → (bytes : List ℕ) × (beside : List ℕ)
        × FailsToDeliver by.contents by.stores by.held by.output_faults old.files new.files old.output new.output
        (λ said. Says by old new (line_of task.tool_name said)) task.beside beside task.target bytes
        × Foresees by task old (HasBytes bytes beside)
        × Makes by task old (Both bytes beside)
    -- 5: out of memory
    pub memory : status ≡ 5 → Says by old new (line_of task.tool_name out_of_memory)
    -- whatever it is, it is the outcome's status, or 3, 4 or 5 came in its place
    pub exact : Foresees by task old (IsStatusFor status)
    -- only 0 and 4 deliver anything: with the others nothing was written and no store was begun. What isn't asked for stays as it was
    pub untouched : status ≢ 0 → status ≢ 4 → new.output ≡ old.output
    pub kept : status ≢ 0 → status ≢ 4 → by.contents new.files ≡ by.contents old.files
    pub unstored : StoresNoFile task ⊎ ((status ≢ 0) × (status ≢ 4)) → by.stores new.files ≡ by.stores old.files
    pub aside : task.target ≢ None → new.output ≡ old.output
    pub unread : reads_input task.needs ≡ false → new.input ≡ old.input
    pub unreached : Foresees by task old (λ o. o.reads_input ≡ false → new.input ≡ old.input)
    pub unasked : reads_files task.needs ≡ false → StoresNoFile task → new.files ≡ old.files
