-- Aliases: a wire that only copies has no cell of its own, but is an alias of the cell that it copies. The root of a cell is the cell for
-- which it is an alias, or the cell itself.
use Rattle.std.specs.Prelude.{ℕ, zero, suc, Bool, true, false, ◌&&◌, ◌==◌, List, [], ◌∷◌, ◌++◌, Option, Some, None, fold, get_or, replicate, slice_set, if◌then◌else◌}
use Rattle.vlog_semantics.specs.declared.gates.Gate.{Gate}
use Rattle.vlog_semantics.specs.declared.plan.Settle.{Settle}

-- the root of a cell
abbrev pub root : List ℕ → ℕ → ℕ
root roots cell = get_or roots cell 0

abbrev pub source_of : ℕ → List ℕ → Option ℕ
source_of zero_cell (source ∷ b ∷ c ∷ d ∷ []) = if (b == zero_cell) && (c == zero_cell) && (d == zero_cell) then Some source else None
source_of zero_cell _ = None

-- the cell that a wire copies, if it only copies: its truth table is that of a copy, and its other inputs are the constant 0
abbrev pub copied : ℕ → Gate → Option ℕ
copied zero_cell gate = if gate.table == 2 then source_of zero_cell gate.ins else None

-- a cell becomes an alias of another one's root, unless that is held
abbrev pub joined : List Bool → List ℕ → ℕ → Option ℕ → List ℕ
joined held roots cell (Some source) = if get_or held (root roots source) false then roots else slice_set roots cell (root roots source)
joined held roots cell None = roots

abbrev pub root_step : ℕ → List Bool → List ℕ → Gate → List ℕ
root_step zero_cell held roots gate = joined held roots gate.slot (copied zero_cell gate)

-- each cell is its own root
abbrev pub first_roots : ℕ → List ℕ
first_roots zero = []
first_roots (suc cell) = first_roots cell ++ cell ∷ []

-- registers with an asynchronous set or reset are held: they get no aliases
abbrev pub held_by : List Bool → List Settle → List Bool
held_by held settles = fold (λ bits settle. slice_set bits settle.target true) held settles

abbrev pub roots_of : ℕ → ℕ → List Gate → List Settle → List ℕ
roots_of count zero_cell gates settles = fold (root_step zero_cell (held_by (replicate count false) settles)) (first_roots count) gates
