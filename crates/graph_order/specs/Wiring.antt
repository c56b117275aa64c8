-- A directed graph of nodes that read each other: paths, cycles, and the topological order in which nodes can be written. Nothing
-- here knows of values.
use Rattle.std.specs.Prelude.{◌≡◌, ℕ, zero, suc, ◌<◌, ◌≤◌, Bool, true, false, cond, ◌&&◌, ◌||◌, List, [], ◌∷◌, length, take, get_or, ◌==◌}

-- The graph: its nodes are the numbers below `count`. Each node says whether it is driven, so that it has to be written, and has its
-- fan-in, the nodes that it reads.
pub record Wiring : Type 0 where
  pub count : ℕ
  pub driven : ℕ → Bool
  pub reads : ℕ → List ℕ

-- whether a list has a number
unfoldable pub has : List ℕ → ℕ → Bool
has [] n = false
has (first ∷ rest) n = cond (first == n) true (has rest n)

-- ---- dependence

-- whether a node depends on another: it reads that one, an edge of the graph
abbrev pub depends : Wiring → ℕ → ℕ → Bool
depends wiring a b = has (wiring.reads a) b

-- a path from a node over others to a node: each depends on the next
abbrev pub IsPath : Wiring → ℕ → List ℕ → ℕ → Type 0
IsPath wiring a [] b = depends wiring a b ≡ true
IsPath wiring a (next ∷ rest) b = (depends wiring a next ≡ true) × IsPath wiring next rest b

-- a cycle: each node depends on the next, and the last one on the first
abbrev pub IsCycle : Wiring → List ℕ → Type 0
IsCycle wiring [] = ⊥
IsCycle wiring (first ∷ rest) = IsPath wiring first rest first

-- Whether a path leads from a node to another, all of whose nodes in between are below a bound: one that avoids the greatest of them,
-- or one that goes through it. (Warshall's recursion for the transitive closure.)
unfoldable pub leads_below : Wiring → ℕ → ℕ → ℕ → Bool
leads_below wiring zero a b = depends wiring a b
leads_below wiring (suc n) a b = leads_below wiring n a b || (leads_below wiring n a n && leads_below wiring n n b)

-- whether a node lies on a cycle: a path leads from it back to itself
unfoldable pub is_on_cycle : Wiring → ℕ → Bool
is_on_cycle wiring node = leads_below wiring wiring.count node node

-- ---- the topological order

-- a node that can be written next when some are listed: it is driven, isn't listed, and each driven node of its fan-in is listed
pub record IsReady (wiring : Wiring) (listed : ℕ → Bool) (node : ℕ) : Type 0 where
  pub within : node < wiring.count
  pub driven : wiring.driven node ≡ true
  pub unlisted : listed node ≡ false
  pub inputs : (other : ℕ) → depends wiring node other ≡ true → wiring.driven other ≡ true → listed other ≡ true

-- the least of them
pub record IsLeastReady (wiring : Wiring) (listed : ℕ → Bool) (node : ℕ) : Type 0 where
  pub ready : IsReady wiring listed node
  pub least : (other : ℕ) → IsReady wiring listed other → node ≤ other

-- the write order, a topological order of the driven nodes: at each place stands the least node that can be written after those before
-- it, and all driven nodes are listed
pub record IsWriteOrder (wiring : Wiring) (order : List ℕ) : Type 0 where
  pub each : (place : ℕ) → place < length order → IsLeastReady wiring (has (take place order)) (get_or order place 0)
  pub whole : (node : ℕ) → node < wiring.count → wiring.driven node ≡ true → has order node ≡ true
