-- The file of the system that was read last.
use Rattle.std.specs.Prelude.{◌≡◌, ℕ, List, Option, Some, IsSome}

-- a file is kept, noted as the one that was opened by that name, and in which that place was reached
pub record IsKept {F : Type 0} (kept : Option F) (noted : List ℕ) (reached : Option ℕ) (name : List ℕ) (place : ℕ) : Type 0 where
  pub is_open : IsSome kept
  pub opened_by : noted ≡ name
  pub stands : reached ≡ Some place
