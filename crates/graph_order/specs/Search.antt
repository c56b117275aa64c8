-- What a search along rows finds: its trail has the nodes in the order in which they were found.
use Rattle.std.specs.Prelude.{◌≡◌, ℕ, ◌+◌, ◌<◌, ◌≤◌, Bool, true, false, not, List, length, get_or, count_by}
use Rattle.graph_order.specs.Wiring.{has}
use Rattle.graph_order.specs.Rows.{is_marked}
use Rattle.graph_order.specs.declared.search.Found.{Found}

-- what a trail has past its end
abbrev pub nowhere : Found
nowhere = record { node = 0; from = 0 }

-- the node at a place of a trail, and the place of the one whose row led there
abbrev pub node_at : List Found → ℕ → ℕ
node_at trail place = (get_or trail place nowhere).node

abbrev pub from_at : List Found → ℕ → ℕ
from_at trail place = (get_or trail place nowhere).from

-- a node that is in a trail
pub record StandsIn (trail : List Found) (node : ℕ) : Type 0 where
  pub place : ℕ
  pub within : place < length trail
  pub here : node_at trail place ≡ node

-- all nodes of a trail are below a bound
abbrev pub IsBelow : ℕ → List Found → Type 0
IsBelow bound trail = (place : ℕ) → place < length trail → node_at trail place < bound

-- each node of a trail but the first was found from one before it
abbrev pub ComesFromBefore : List Found → Type 0
ComesFromBefore trail = (place : ℕ) → 0 < place → place < length trail → from_at trail place < place

-- and is in the row of that one
pub record IsTrail (row : ℕ → List ℕ) (trail : List Found) : Type 0 where
  pub before : ComesFromBefore trail
  pub in_row : (place : ℕ) → 0 < place → place < length trail → has (row (node_at trail (from_at trail place))) (node_at trail place) ≡ true

-- the nodes of a row that weren't marked, found from a place, were marked and added to a trail
pub record Adds (row : List ℕ) (from : ℕ) (old new : List Bool) (trail grown : List Found) : Type 0 where
  pub longer : length trail ≤ length grown
  pub kept : (place : ℕ) → place < length trail → get_or grown place nowhere ≡ get_or trail place nowhere
  pub from_here : (place : ℕ) → length trail ≤ place → place < length grown → from_at grown place ≡ from
  pub in_row : (place : ℕ) → length trail ≤ place → place < length grown → has row (node_at grown place) ≡ true
  pub still_marked : (node : ℕ) → is_marked old node ≡ true → is_marked new node ≡ true
  pub listed : (node : ℕ) → is_marked new node ≡ true → is_marked old node ≡ false → StandsIn grown node
  pub few : length grown + count_by not new ≤ length trail + count_by not old

-- a search from a node, which has gone through the rows of the first nodes of its trail
pub record IsSearch (row : ℕ → List ℕ) (start : ℕ) (old new : List Bool) (done : ℕ) (trail : List Found) : Type 0 where
  pub leads : IsTrail row trail
  pub some : 0 < length trail
  pub first : node_at trail 0 ≡ start
  pub below : IsBelow (length old) trail
  pub marked : (place other : ℕ) → place < done → has (row (node_at trail place)) other ≡ true → is_marked new other ≡ true
  pub listed : (node : ℕ) → is_marked new node ≡ true → is_marked old node ≡ false → StandsIn trail node
