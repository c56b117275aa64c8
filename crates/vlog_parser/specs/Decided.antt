-- A text's outcome says whether it spells a module, and which one.
use Rattle.std.specs.Prelude.{◌≡◌, ◌↔◌, ℕ, List, Some, Ok, Err}
use Rattle.vlog_module.specs.Parts.{Parts}
use Rattle.vlog_forms.specs.Items.{IsSpelling}
use Rattle.vlog_forms.specs.Outcome.{Fault, outcome_of, vlog_fault_of}

-- a text has this fault, and spells no module
pub record IsFaulty (text : List ℕ) (fault : Fault) : Type 0 where
  pub fault_is : vlog_fault_of text ≡ Some fault
  pub spells_none : (m : Parts) → IsSpelling text m → ⊥

-- a text spells exactly the module of its outcome, or it spells none and has exactly the fault of its outcome
pub record IsDecided (text : List ℕ) : Type 0 where
  pub spelled : (m : Parts) → IsSpelling text m ↔ (outcome_of text ≡ Ok m)
  pub refused : (fault : Fault) → IsFaulty text fault ↔ (outcome_of text ≡ Err fault)
