-- What a fault of a target leaves.
use Rattle.std.proofs.Common.{◌≡◌, ℕ, true, false, List, take, refl, inl, inr}
use Rattle.std.specs.Prelude.{Option, None, Some, Err, IsErrOf}
use Rattle.std.specs.Borrow.{Bor}
use Rattle.std.specs.Io.KnownBytes.{Appends}
use Rattle.ice_io.specs.Faults.{Rose}
use Rattle.ice_io.specs.Files.{FileMap, LeavesPart}
use Rattle.ice_io.specs.declared.files.StoreFault.{StoreFault}
use Rattle.ice_io.specs.declared.files.StoreFault.TheVariants.{Failed}
use Rattle.tool_run.specs.Counts.{Counts}
use Rattle.tool_run.specs.Lines.{write_failed}
use Rattle.tool_run.specs.Effects.{DeliversPart, FailsBeside, FailsToDeliver, FailsToTake, with_beside}
use Rattle.tool_run.specs.declared.delivery.Undelivered.{Undelivered}
use Rattle.tool_run.specs.declared.delivery.Undelivered.TheVariants as undelivered

-- the target that the fault names
pub failed_at : (target at : Option (Bor (List ℕ))) → IsErrOf {T = Unit {0}} {E = Undelivered} (Err (undelivered.Failed target)) (undelivered.Failed at) → target ≡ at
failed_at target at is = cc

-- a store that failed
stored_part : (files new_files : Option FileMap) (held : Option (List ℕ)) (name bytes : List ℕ) (fault : StoreFault) → LeavesPart files new_files name bytes fault → DeliversPart (Some name) bytes files new_files held held
stored_part files new_files held name bytes (Failed true written) leaves = inr (written, (leaves.0, refl))
stored_part files new_files held name bytes (Failed false written) leaves = inl (leaves.0, refl)

module _ {F O : Type 0} (contents : F → Option FileMap) (stores : F → Counts) (held : O → Option (List ℕ)) (output_faults : O → ℕ) (files new_files : F) where
  -- a file that wasn't stored whole
  pub store_fails : (output : O) (S : List ℕ → Type 0) (name bytes : List ℕ) (fault : StoreFault) → LeavesPart (contents files) (contents new_files) name bytes fault
      → Rose (stores files).faults (stores new_files).faults → S (write_failed (Some name))
      → FailsToTake contents stores held output_faults files new_files output output S (contents files) (Some name) bytes
  store_fails output S name bytes fault leaves rose said = record {
    part = stored_part (contents files) (contents new_files) (held output) name bytes fault leaves;
    rose = rose;
    said = said;
  }

  -- standard output that didn't take all bytes
  pub write_fails : (output new_output : O) (S : List ℕ → Type 0) (before : Option FileMap) (bytes : List ℕ) (written : ℕ) → contents new_files ≡ before
      → Appends (held output) (held new_output) (take written bytes) → Rose (output_faults output) (output_faults new_output) → S (write_failed None)
      → FailsToTake contents stores held output_faults files new_files output new_output S before None bytes
  write_fails output new_output S before bytes written same appends rose said = record {
    part = inr (written, (same, appends));
    rose = rose;
    said = said;
  }

-- a delivery that failed, if what is said is put in other words
module _ {F O : Type 0} (contents : F → Option FileMap) (stores : F → Counts) (held : O → Option (List ℕ)) (output_faults : O → ℕ) (files new_files : F) (output new_output : O) (S T : List ℕ → Type 0) where
  take_says : (before : Option FileMap) (target : Option (List ℕ)) (bytes : List ℕ) → ((said : List ℕ) → S said → T said)
      → FailsToTake contents stores held output_faults files new_files output new_output S before target bytes
      → FailsToTake contents stores held output_faults files new_files output new_output T before target bytes
  take_says before target bytes says fails = record { part = fails.part; rose = fails.rose; said = says (write_failed target) fails.said }

  beside_says : (beside : Option (List ℕ)) (more : List ℕ) → ((said : List ℕ) → S said → T said)
      → FailsBeside contents stores held output_faults files new_files output new_output S beside more
      → FailsBeside contents stores held output_faults files new_files output new_output T beside more
  beside_says None more says fails = absurd fails
  beside_says (Some name) more says fails = (take_says (contents files) (Some name) more says fails.0, fails.1)

  pub delivery_says : (beside : Option (List ℕ)) (more : List ℕ) (target : Option (List ℕ)) (bytes : List ℕ) → ((said : List ℕ) → S said → T said)
      → FailsToDeliver contents stores held output_faults files new_files output new_output S beside more target bytes
      → FailsToDeliver contents stores held output_faults files new_files output new_output T beside more target bytes
  delivery_says beside more target bytes says fails = elim fails [
    | inl first ↦ inl (beside_says beside more says first)
    | inr then ↦ inr (take_says (with_beside (contents files) beside more) target bytes says then)
  ]
