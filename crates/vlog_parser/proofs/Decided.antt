-- What is said of a text by its outcome, and by the modules that it spells, is the same.
use Rattle.std.proofs.Common.{◌≡◌, ◌∙◌, ℕ, List, Some, Result, Ok, Err, ap, sym}
use Rattle.vlog_module.specs.Parts.{Parts}
use Rattle.vlog_forms.specs.Items.{IsSpelling}
use Rattle.vlog_forms.specs.Outcome.{Fault, fault_in, outcome_of, vlog_fault_of}
use Rattle.vlog_forms.proofs.Spelled.{outcome-spelled}
use Rattle.vlog_forms.proofs.Whole.{outcome-spells}
use Rattle.vlog_parser.specs.Decided.{IsDecided, IsFaulty}

-- the outcome with a fault is that fault
failed : (outcome : Result Parts Fault) (fault : Fault) → fault_in outcome ≡ Some fault → outcome ≡ Err fault
failed (Ok m) fault is = absurd cc
failed (Err one) fault is = let same : one ≡ fault = cc in ap Err same

-- an outcome is a module or a fault, and not both
apart : (text : List ℕ) (fault : Fault) (m : Parts) → outcome_of text ≡ Err fault → IsSpelling text m → ⊥
apart text fault m refused spells = let both : ◌≡◌ {A = Result Parts Fault} (Err fault) (Ok m) = sym refused ∙ outcome-spelled text m spells in cc

refused-faulty : (text : List ℕ) (fault : Fault) → outcome_of text ≡ Err fault → IsFaulty text fault
unfolding vlog_fault_of
refused-faulty text fault refused = record { fault_is = ap fault_in refused; spells_none = λ m. apart text fault m refused }

faulty-refused : (text : List ℕ) (fault : Fault) → IsFaulty text fault → outcome_of text ≡ Err fault
unfolding vlog_fault_of
faulty-refused text fault faulty = failed (outcome_of text) fault faulty.fault_is

pub decided : (text : List ℕ) → IsDecided text
decided text = record {
  spelled = λ m. (outcome-spelled text m, outcome-spells text m);
  refused = λ fault. (faulty-refused text fault, refused-faulty text fault);
}
