-- The nodes that can be written next, and those that have been written.
use Rattle.std.specs.Prelude.{◌≡◌, ℕ, ◌<◌, Bool, true, false, List, length, take, get_or}
use Rattle.std.specs.Ordering.{nat_cmp}
use Rattle.std.specs.BTreeSet.{BTreeSet, contains}
use Rattle.graph_order.specs.Wiring.{Wiring, has, IsReady, IsLeastReady}

-- each driven node of a list is written
abbrev pub AreWritten : (ℕ → Bool) → (ℕ → Bool) → List ℕ → Type 0
AreWritten driven written list = (other : ℕ) → has list other ≡ true → driven other ≡ true → written other ≡ true

-- all that a set holds can be written
abbrev pub HoldsReady : Wiring → (ℕ → Bool) → BTreeSet ℕ → Type 0
HoldsReady wiring written set = (node : ℕ) → contains nat_cmp set node ≡ true → IsReady wiring written node

-- a set holds all that can be written, but for some that pass a test
abbrev pub HoldsAllBut : Wiring → (ℕ → Bool) → (ℕ → Bool) → BTreeSet ℕ → Type 0
HoldsAllBut wiring written but set = (node : ℕ) → IsReady wiring written node → but node ≡ false → contains nat_cmp set node ≡ true

-- nodes that were written one by one: each is the least that can be written after those before it
pub record IsWritten (wiring : Wiring) (written : ℕ → Bool) (order : List ℕ) : Type 0 where
  pub marks : (node : ℕ) → written node ≡ has order node
  pub each : (place : ℕ) → place < length order → IsLeastReady wiring (has (take place order)) (get_or order place 0)
