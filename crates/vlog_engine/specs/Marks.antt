-- Marks on wires that may be out of date, and when wires have their values.
use Rattle.std.specs.Prelude.{◌≡◌, ℕ, ◌+◌, ◌*◌, ◌/◌, ◌%◌, ◌<◌, ◌≤◌, Bool, true, false, ◌||◌, ◌==◌, List, [], ◌∷◌, ◌++◌, Vec, fold, get_or, length, map, slice_set}
use Rattle.std.specs.Global.{Global}
use Rattle.vlog_semantics.specs.Cells.{cell_at, gate_value}
use Rattle.vlog_semantics.specs.Values.{bit_of}
use Rattle.vlog_semantics.specs.declared.gates.Gate.{Gate}

-- ---- wires

abbrev pub no_gate : Gate
no_gate = record { slot = 0; ins = []; table = 0 }

abbrev pub gate_at : List Gate → ℕ → Gate
gate_at gates place = get_or gates place no_gate

-- whether a number is in a list
abbrev pub has : List ℕ → ℕ → Bool
has [] number = false
has (other ∷ numbers) number = (other == number) || has numbers number

-- whether a cell is the wire's own or in its fan-in
abbrev pub touches : Gate → ℕ → Bool
touches gate cell = (gate.slot == cell) || has gate.ins cell

-- the wire is up to date: its cell has the value of the truth table over its fan-in
abbrev pub IsEven : List Bool → Gate → Type 0
IsEven cells gate = cell_at cells gate.slot ≡ gate_value cells gate

-- ---- the fan-out of cells, as lists of wires

abbrev pub lists_of : List (Vec ℕ Global) → List (List ℕ)
lists_of lists = map (λ list. list.items) lists

-- the list of a cell has each wire of its fan-out, and the wire whose cell it is
abbrev pub IsRead : List Gate → List (Vec ℕ Global) → Type 0
IsRead gates readers = (place cell : ℕ) → place < length gates → touches (gate_at gates place) cell ≡ true → has (get_or (lists_of readers) cell []) place ≡ true

-- the cells of wires, and those of their fan-in, are among the first `count`
abbrev pub AreWithin : ℕ → List Gate → Type 0
AreWithin count gates = (place cell : ℕ) → place < length gates → touches (gate_at gates place) cell ≡ true → cell < count

-- a wire is added to the list of a cell
abbrev pub with_reader : ℕ → List (List ℕ) → ℕ → List (List ℕ)
with_reader place lists cell = slice_set lists cell (get_or lists cell [] ++ place ∷ [])

-- a wire is added to the lists of its cell and of its fan-in
abbrev pub with_gate : ℕ → List (List ℕ) → Gate → List (List ℕ)
with_gate place lists gate = with_reader place (fold (with_reader place) lists gate.ins) gate.slot

-- ---- marks: a word has the marks of 64 wires, that of the first wire in its lowest bit

abbrev pub is_marked : List ℕ → ℕ → Bool
is_marked marks place = bit_of (get_or marks (place / 64) 0) (place % 64)

-- each wire that isn't marked is up to date
pub record IsTracked (gates : List Gate) (cells : List Bool) (marks : List ℕ) : Type 0 where
  pub room : length gates ≤ 64 * length marks
  pub even : (place : ℕ) → place < length gates → is_marked marks place ≡ false → IsEven cells (gate_at gates place)

-- the wires are the first ones of all that are watched
pub record AreFirst (gates watched : List Gate) : Type 0 where
  pub fit : length gates ≤ length watched
  pub same : (place : ℕ) → place < length gates → gate_at watched place ≡ gate_at gates place

-- what is watched is up to date or marked; also, in an active lane each of the first wires is up to date, marked or not
pub record IsSwept (active : Bool) (gates watched : List Gate) (end : ℕ) (cells : List Bool) (marks : List ℕ) : Type 0 where
  pub tracked : IsTracked watched cells marks
  pub done : active ≡ true → (place : ℕ) → place < end → place < length gates → IsEven cells (gate_at gates place)

-- ---- the order of wires, which is a topological order; there are `count` names, and the cells after theirs are no wires' cells

-- those of the cells that are cells of names come before the wire's cell
abbrev pub AreBefore : ℕ → ℕ → List ℕ → Type 0
AreBefore count slot [] = Unit {0}
AreBefore count slot (cell ∷ cells) = (cell < count → cell < slot) × AreBefore count slot cells

-- the cells of wires rise from `first` on, and each wire reads only what comes before it
abbrev pub AreRising : ℕ → ℕ → List Gate → Type 0
AreRising first count [] = Unit {0}
AreRising first count (gate ∷ gates) = ((first ≤ gate.slot) × (gate.slot < count)) × (AreBefore count gate.slot gate.ins × AreRising (gate.slot + 1) count gates)

-- the cells that no wire has keep their values
abbrev pub StaySources : ℕ → ℕ → List Bool → List Bool → Type 0
StaySources first count before after = (cell : ℕ) → (cell < count → cell < first) → cell_at after cell ≡ cell_at before cell
