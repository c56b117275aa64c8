-- Levels of nodes: numbers that don't rise along reads, so that all nodes of a strongly connected component have the same one.
use Rattle.std.specs.Prelude.{◌≡◌, ℕ, ◌≤◌, true, List, get_or}
use Rattle.graph_order.specs.Wiring.{has}

-- no node reads one of a higher level
abbrev pub DontRise : (ℕ → List ℕ) → List ℕ → Type 0
DontRise reads levels = (node other : ℕ) → has (reads node) other ≡ true → get_or levels other 0 ≤ get_or levels node 0
