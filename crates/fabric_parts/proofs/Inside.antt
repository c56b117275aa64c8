-- Nets that are below a number of nets.
use Rattle.std.proofs.Common.{ℕ, ◌<◌, ◌≤◌, arith}
use Rattle.std.specs.Prelude.{Option, Some, None, IfSome}

-- a net that is below a number is below one that isn't less
pub inside-more : (net : Option ℕ) (nets more : ℕ) → nets ≤ more → IfSome net (λ n. n < nets) → IfSome net (λ n. n < more)
inside-more None nets more few inside = tt
inside-more (Some net) nets more few inside = omega (arith, inside)
