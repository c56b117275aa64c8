-- The outcome of a text that spells a module, and of one that has a fault.
use Rattle.std.proofs.Common.{◌≡◌, ℕ, List}
use Rattle.std.specs.Prelude.{Some, Result, Ok, Err}
use Rattle.vlog_module.specs.Parts.{Parts}
use Rattle.vlog_forms.specs.Items.{IsSpelling}
use Rattle.vlog_forms.proofs.Spelled.{outcome-spelled}
use Rattle.vlog_forms.specs.Outcome.{Fault, fault_in, outcome_of, vlog_fault_of}

faulty : (outcome : Result Parts Fault) (one : Fault) → fault_in outcome ≡ Some one → outcome ≡ Err one
faulty (Ok m) one e = absurd cc
faulty (Err other) one e = cc

-- the fault of a text is its outcome
pub outcome_faulty : (text : List ℕ) (one : Fault) → vlog_fault_of text ≡ Some one → outcome_of text ≡ Err one
unfolding vlog_fault_of
outcome_faulty text one e = faulty (outcome_of text) one e

-- the module that it spells is its outcome
pub outcome_spelled : (text : List ℕ) (m : Parts) → IsSpelling text m → outcome_of text ≡ Ok m
outcome_spelled text m spells = outcome-spelled text m spells
