-- What holds of a list that has only names that are free.
use Rattle.std.specs.Prelude.{◌≡◌, ℕ, List, None}
use Rattle.vlog_module.specs.Parts.{Parts}
use Rattle.vlog_module.specs.WellFormed.{IsModule}
use Rattle.wire_names.specs.Faults.{names_fault_of, wires_named}
use Rattle.wire_names.specs.Lists.{free_names, names_text}

-- The text of these names has no fault, and gives these names.
pub record IsRead (m : Parts) (names : List (List ℕ × List ℕ)) : Type 0 where
  pub faultless : names_fault_of m (names_text names) ≡ None
  pub given : wires_named (names_text names) ≡ names

-- this holds for a well-formed module and what is free of the names that are wanted for its wires, whatever these are
abbrev pub FreeNamesAreRead : Parts → List (List ℕ × List ℕ) → Type 0
FreeNamesAreRead m wanted = IsModule m → IsRead m (free_names m wanted)
