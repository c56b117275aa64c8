-- Classes of joined nets by parents: a net has a parent in its class that isn't greater, and the least net is its own parent.
use Rattle.std.specs.Prelude.{◌≡◌, ℕ, ◌<◌, ◌≤◌, List, length, slice_index, min, max, ◌==◌, if◌then◌else◌}

-- the parent of a net isn't greater than the net
pub record IsForest (parents : List ℕ) : Type 0 where
  pub above : (net : ℕ) → net < length parents → slice_index parents net ≤ net

-- these parents give the classes of joined nets: a net has the class of its parent, and a net that is its own parent names its class
pub record AreParents (class : ℕ → ℕ) (parents : List ℕ) : Type 0 where
  pub along : (net : ℕ) → net < length parents → class (slice_index parents net) ≡ class net
  pub roots : (net : ℕ) → net < length parents → slice_index parents net ≡ net → class net ≡ net

-- the classes of joined nets after those of two nets are merged: the lesser name stays
unfoldable pub merged : (ℕ → ℕ) → ℕ → ℕ → ℕ → ℕ
merged class a b net = if class net == max (class a) (class b) then min (class a) (class b) else class net
