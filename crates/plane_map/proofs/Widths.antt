-- Columns of any widths, side by side: where each starts, and that no place lies in two of them.
use Rattle.std.proofs.Common.{◌≡◌, ℕ, zero, suc, ◌+◌, ◌<◌, ◌≤◌, arith}

-- each column starts where the one before it ends
pub record AreStarts (start width : ℕ → ℕ) : Type 0 where
  pub first : start 0 ≡ 0
  pub next : (u : ℕ) → start (suc u) ≡ start u + width u

-- a column ends at or before the start of each later one
pub start-later : (start width : ℕ → ℕ) → AreStarts start width → (u v : ℕ) → u < v → start u + width u ≤ start v
start-later start width s u zero h = absurd (omega arith)
start-later start width s u (suc v) h = grind (arith, start-later start width s u v, s.next v)

-- two columns in which one place lies are one column, and the place is as far into it
pub same_column : (start width : ℕ → ℕ) → AreStarts start width → (u v a b : ℕ) → a < width u → b < width v → start u + a ≡ start v + b → (u ≡ v) × (a ≡ b)
same_column start width s u v a b ha hb e = grind (arith, start-later start width s u v, start-later start width s v u)
