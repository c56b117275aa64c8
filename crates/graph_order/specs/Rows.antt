-- A graph that is given as lists: a mark and a row for each node.
use Rattle.std.specs.Prelude.{◌≡◌, ℕ, ◌<◌, Bool, true, false, List, [], length, map, get_or}
use Rattle.std.specs.declared.vec.Vec.{Vec}
use Rattle.graph_order.specs.Wiring.{Wiring, depends}

-- what the rows hold
abbrev pub lists_of : {Z : Type 0} → List (Vec ℕ Z) → List (List ℕ)
lists_of rows = map (λ row. row.items) rows

-- a row; one that isn't there is empty
abbrev pub row_at : {Z : Type 0} → List (Vec ℕ Z) → ℕ → List ℕ
row_at rows at = get_or (lists_of rows) at []

-- whether a number is marked; one without a mark isn't
abbrev pub is_marked : List Bool → ℕ → Bool
is_marked marks n = get_or marks n false

-- the graph that has as many nodes as there are marks: the marked ones are driven, and the row of each is its fan-in
abbrev pub wiring_of : {Z : Type 0} → List Bool → List (Vec ℕ Z) → Wiring
wiring_of driven reads = record {
  count = length driven;
  driven = is_marked driven;
  reads = row_at reads;
}

-- each node that is read is one of the graph
abbrev pub ReadsWithin : Wiring → Type 0
ReadsWithin wiring = (node other : ℕ) → depends wiring node other ≡ true → other < wiring.count

-- only a driven node reads any
abbrev pub ReadsByDriven : Wiring → Type 0
ReadsByDriven wiring = (node other : ℕ) → depends wiring node other ≡ true → wiring.driven node ≡ true
