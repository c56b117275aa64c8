use Rattle.std.proofs.Common.{◌≡◌, ◌<◌, ℕ, false}
use Rattle.fabric_model.specs.Luts.{entry_differs}
use Rattle.fabric_model.proofs.lut_inputs.uses_input.Given as goal

abbrev pub invariant-loop-n : goal.invariant-loop-n
invariant-loop-n l = (number : ℕ) → number < l.n → entry_differs l.lut l.k number ≡ false
