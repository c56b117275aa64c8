-- Graphs that say the same.
use Rattle.std.specs.Prelude.{◌≡◌, ℕ}
use Rattle.graph_order.specs.Wiring.{Wiring, depends}

-- two wirings that say the same
pub record AreAlike (one two : Wiring) : Type 0 where
  pub count : one.count ≡ two.count
  pub driven : (node : ℕ) → one.driven node ≡ two.driven node
  pub reads : (node other : ℕ) → depends one node other ≡ depends two node other
