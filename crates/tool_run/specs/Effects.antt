-- What a run does to the files and the streams, if these tell what they hold.
use Rattle.std.specs.Prelude.{◌≡◌, ◌⊎◌, ℕ, true, List, Option, None, Some, MatchOption, take}
use Rattle.std.specs.Io.KnownBytes.{Appends}
use Rattle.ice_io.specs.Faults.{Rose, RoseAtLeastBy}
use Rattle.ice_io.specs.Files.{FileMap, with_file}
use Rattle.tool_run.specs.Needs.{Need}
use Rattle.tool_run.specs.Counts.{Counts}
use Rattle.tool_run.specs.Lines.{write_failed}
use Rattle.tool_run.specs.Tasks.{Outcome, Task, outcome_of}

-- the bytes were appended to standard output, or stored in the file, and nothing else changed
abbrev pub Delivers : Option (List ℕ) → List ℕ → Option FileMap → Option FileMap → Option (List ℕ) → Option (List ℕ) → Type 0
Delivers None bytes files new_files held new_held = (new_files ≡ files) × Appends held new_held bytes
Delivers (Some name) bytes files new_files held new_held = (new_files ≡ with_file files name bytes) × (new_held ≡ held)

-- the files after these bytes were stored beside the target, if there is a file beside it
abbrev pub with_beside : Option FileMap → Option (List ℕ) → List ℕ → Option FileMap
with_beside files None bytes = files
with_beside files (Some name) bytes = with_file files name bytes

-- some first bytes were delivered, or nothing changed at all
abbrev pub DeliversPart : Option (List ℕ) → List ℕ → Option FileMap → Option FileMap → Option (List ℕ) → Option (List ℕ) → Type 0
DeliversPart target bytes files new_files held new_held =
    ((new_files ≡ files) × (new_held ≡ held)) ⊎ ((n : ℕ) × Delivers target (take n bytes) files new_files held new_held)

-- the line was appended whole, or a part of it, and then a write failed
abbrev pub Writes : List ℕ → Option (List ℕ) → Option (List ℕ) → ℕ → ℕ → Type 0
Writes line held new_held faults new_faults =
    Appends held new_held line ⊎ ((n : ℕ) × Appends held new_held (take n line) × Rose faults new_faults)

-- the message was written, or a part of it; without a message nothing was, and all is as it was
abbrev pub Speaks : {E : Type 0} → Option (List ℕ) → (E → Option (List ℕ)) → (E → ℕ) → E → E → Type 0
Speaks None said faults errors new_errors = new_errors ≡ errors
Speaks (Some line) said faults errors new_errors = Writes line (said errors) (said new_errors) (faults errors) (faults new_errors)

-- a need's own side failed once more: standard input, or the files
abbrev pub SourceRose : Need → Counts → Counts → Counts → Counts → Type 0
SourceRose need loads new_loads reads new_reads =
    MatchOption need.name (Rose reads.faults new_reads.faults) (λ name. Rose loads.faults new_loads.faults)

-- of a need's own side at least so many bytes were read
abbrev pub SourceGave : ℕ → Need → Counts → Counts → Counts → Counts → Type 0
SourceGave n need loads new_loads reads new_reads =
    MatchOption need.name (RoseAtLeastBy n reads.done new_reads.done) (λ name. RoseAtLeastBy n loads.done new_loads.done)

-- the target failed once more: the stores, or standard output
abbrev pub TargetRose : Option (List ℕ) → Counts → Counts → ℕ → ℕ → Type 0
TargetRose None stores new_stores output_faults new_output_faults = Rose output_faults new_output_faults
TargetRose (Some name) stores new_stores output_faults new_output_faults = Rose stores.faults new_stores.faults

module _ {F O : Type 0} (contents : F → Option FileMap) (stores : F → Counts) (held : O → Option (List ℕ)) (output_faults : O → ℕ)
    (files new_files : F) (output new_output : O) (S : List ℕ → Type 0) where
  -- over files as they were before, a target took no more than some first ones of these bytes, its count rose, and S holds of what is said
  pub record FailsToTake (before : Option FileMap) (target : Option (List ℕ)) (bytes : List ℕ) : Type 0 where
    pub part : DeliversPart target bytes before (contents new_files) (held output) (held new_output)
    pub rose : TargetRose target (stores files) (stores new_files) (output_faults output) (output_faults new_output)
    pub said : S (write_failed target)

  -- the file beside the target wasn't stored whole, and the target got nothing
  abbrev pub FailsBeside : Option (List ℕ) → List ℕ → Type 0
  FailsBeside None bytes = ⊥
  FailsBeside (Some name) bytes = FailsToTake (contents files) (Some name) bytes × (new_output ≡ output)

  -- the file beside the target wasn't stored whole; or it was, if there is one, and the target didn't take all of its bytes
  abbrev pub FailsToDeliver : Option (List ℕ) → List ℕ → Option (List ℕ) → List ℕ → Type 0
  FailsToDeliver beside beside_bytes target bytes =
      FailsBeside beside beside_bytes ⊎ FailsToTake (with_beside (contents files) beside beside_bytes) target bytes

-- the files and the input are these, as far as the outcome reads them
pub record Tells (o : Outcome) (contents : Option FileMap) (left : Option (List ℕ)) (files : FileMap) (input : List ℕ) : Type 0 where
  pub files_told : o.reads_files ≡ true → contents ≡ Some files
  pub input_told : o.reads_input ≡ true → left ≡ Some input

-- if files and input are told as far as the outcome reads them, the outcome has P
abbrev pub Foretells : Task → Option FileMap → Option (List ℕ) → (Outcome → Type 0) → Type 0
Foretells task contents left P =
    (files : FileMap) (input : List ℕ) → Tells (outcome_of task files input) contents left files input → P (outcome_of task files input)
