-- The flags of inputs that can be 1 say which entries can occur.
use Rattle.std.proofs.Common.{◌≡◌, ℕ, Bool, List, refl, arith}
use Rattle.fabric_model.specs.declared.register.LutTable.{LutTable}
use Rattle.fabric_model.specs.ClockLuts.{is_open}
use Rattle.fabric_model.specs.ClockPasses.{AreOpen, is_open_by}

pub open_by : (connected : ℕ → Bool) (table : LutTable) (live : List Bool) → AreOpen connected table live → (n : ℕ) → is_open_by live n ≡ is_open connected table n
open_by connected table live are n = rw (are 0 (omega arith), are 1 (omega arith), are 2 (omega arith), are 3 (omega arith)) refl
