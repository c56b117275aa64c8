-- What becomes of what a tool made, and of a load that stopped.
use Rattle.std.specs.Prelude.{◌≡◌, ◌≢◌, ◌⊎◌, ℕ, List, Option, None, Some, option_map, Result, IsOkAnd, IsErrAnd}
use Rattle.ice_io.specs.Files.{FileMap}
use Rattle.tool_run.specs.Needs.{need_of}
use Rattle.tool_run.specs.Counts.{Counts}
use Rattle.tool_run.specs.Lines.{line_of, out_of_memory, read_failed, refusal_text, too_long}
use Rattle.tool_run.specs.Effects.{Delivers, FailsToDeliver, Speaks, Writes, with_beside}
use Rattle.tool_run.specs.declared.load.LoadStop.{LoadStop}
use Rattle.tool_run.specs.declared.load.LoadStop.TheVariants as load_stop
use Rattle.tool_run.specs.declared.tool.Stop.{Stop}
use Rattle.tool_run.specs.declared.tool.Stop.TheVariants.{Refused, Quiet, UsageError, Memory}

-- a tool stops with this status, and S holds of what it says, if it says anything
abbrev pub Refuses : ℕ → (Option (List ℕ) → Type 0) → Stop → Type 0
Refuses status S (Refused refusal) = (status ≡ 1) × S (Some (refusal_text refusal))
Refuses status S Quiet = (status ≡ 1) × S None
Refuses status S (UsageError refusal) = (status ≡ 2) × S (Some (refusal_text refusal))
Refuses status S Memory = ⊥

-- what became of what a tool made, by its bytes and those for the file beside the target, or of why it gives none
pub record Concludes {F O E M : Type 0} (contents : F → Option FileMap) (stores : F → Counts) (held : O → Option (List ℕ)) (output_faults : O → ℕ) (told : E → Option (List ℕ)) (error_faults : E → ℕ) (tool_name : List ℕ) (beside target : Option (List ℕ)) (beside_bytes bytes : M → List ℕ) (made : Result M Stop) (status : ℕ) (files new_files : F) (output new_output : O) (errors new_errors : E) : Type 0 where
  pub statuses : (status ≡ 0) ⊎ (status ≡ 1) ⊎ (status ≡ 2) ⊎ (status ≡ 4) ⊎ (status ≡ 5)
  pub whole : status ≡ 0 → IsOkAnd made (λ product. Delivers target (bytes product) (with_beside (contents files) beside (beside_bytes product)) (contents new_files) (held output) (held new_output))
  pub silent : status ≡ 0 → new_errors ≡ errors
  pub refused : (status ≡ 1) ⊎ (status ≡ 2) → IsErrAnd made (Refuses status (λ said. Speaks (option_map (line_of tool_name) said) told error_faults errors new_errors))
  pub part : status ≡ 4 → IsOkAnd made (λ product. FailsToDeliver contents stores held output_faults files new_files output new_output
      (λ said. Writes (line_of tool_name said) (told errors) (told new_errors) (error_faults errors) (error_faults new_errors))
      beside (beside_bytes product) target (bytes product))
  pub memory : status ≡ 5 → Writes (line_of tool_name out_of_memory) (told errors) (told new_errors) (error_faults errors) (error_faults new_errors)
  pub untouched : status ≢ 0 → status ≢ 4 → new_output ≡ output
  pub kept : status ≢ 0 → status ≢ 4 → contents new_files ≡ contents files
  pub unstored : status ≢ 0 → status ≢ 4 → stores new_files ≡ stores files
  pub aside : target ≢ None → new_output ≡ output
  pub unasked : beside ≡ None → target ≡ None → new_files ≡ files

-- the status of a load that stopped, and S holds of what is said
abbrev pub TellsStop : ℕ → (List ℕ → Type 0) → LoadStop → Type 0
TellsStop status S (load_stop.Failed load) = (status ≡ 3) × S (read_failed (need_of load))
TellsStop status S (load_stop.TooLong load) = (status ≡ 6) × S (too_long (need_of load))
TellsStop status S load_stop.Memory = (status ≡ 5) × S out_of_memory
