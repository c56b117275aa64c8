-- What holds of all numbers below a bound.
use Rattle.std.proofs.Common.{◌≡◌, ℕ, ◌+◌, ◌<◌, Bool, ap, ◌∙◌, inl, inr, arith}
use Rattle.std.proofs.lemmas.Bool.{cases_lt}

-- a test has a value at one number more
pub below-more : (n : ℕ) (test : ℕ → Bool) (value : Bool) → ((k : ℕ) → k < n → test k ≡ value) → test n ≡ value → (k : ℕ) → k < n + 1 → test k ≡ value
below-more n test value before here k below =
    elim (cases_lt k n) [
      | inl less ↦ before k less
      | inr more ↦ let same : k ≡ n = omega arith in ap test same ∙ here
    ]
