-- Flip-flops over cells.
use Rattle.std.specs.Prelude.{◌≡◌, ◌+◌, ◌<◌, ◌≤◌, ℕ, Bool, false, List, [], ◌∷◌, get_or, length, map, if◌then◌else◌}
use Rattle.std.specs.List.{range_with_len}
use Rattle.vlog_semantics.specs.Cells.{cell_at}
use Rattle.vlog_semantics.specs.Values.{bit_of, number_of}
use Rattle.vlog_semantics.specs.declared.gates.Gate.{Gate}
use Rattle.vlog_semantics.specs.declared.plan.FlipFlop.{FlipFlop}
use Rattle.vlog_semantics.specs.declared.plan.Operand.TheVariants.{Slot}
use Rattle.vlog_engine.specs.declared.flips.Flip.{Flip}
use Rattle.vlog_engine.specs.Marks.{gate_at}

-- the inputs of the LUT, the lowest bit of the index first
abbrev pub inputs : Flip → List ℕ
inputs flip = flip.a ∷ flip.b ∷ flip.c ∷ flip.d ∷ []

-- the flip-flop of the plan, each operand of which is a cell
abbrev pub flip_flop : Flip → FlipFlop
flip_flop flip = record {
  edge = flip.edge;
  enable = Slot flip.enable;
  reset = Slot flip.reset;
  set = flip.set;
  target = flip.target;
  table = record { word = flip.table; ins = map Slot (inputs flip) };
}

abbrev pub flip_flops : List Flip → List FlipFlop
flip_flops flips = map flip_flop flips

-- the cells of a flip-flop are among the first `count` ones
pub record IsOver (count : ℕ) (flip : Flip) : Type 0 where
  pub enable : flip.enable < count
  pub reset : flip.reset < count
  pub target : flip.target < count
  pub a : flip.a < count
  pub b : flip.b < count
  pub c : flip.c < count
  pub d : flip.d < count

-- the first cells have the same bits
abbrev pub AreSameBelow : ℕ → List Bool → List Bool → Type 0
AreSameBelow first some other = (cell : ℕ) → cell < first → cell_at some cell ≡ cell_at other cell

-- ---- flip-flops that are watched: each is a wire of seven inputs whose cell is its register, and is up to date where an edge leaves the
-- register as it is

abbrev pub no_flip : Flip
no_flip = record { edge = record { clock = 0; falling = false }; enable = 0; reset = 0; set = false; target = 0; table = 0; a = 0; b = 0; c = 0; d = 0 }

abbrev pub flip_in : List Flip → ℕ → Flip
flip_in flips place = get_or flips place no_flip

-- all cells that a flip-flop reads, its register among them
abbrev pub flip_cells : Flip → List ℕ
flip_cells flip = flip.enable ∷ flip.reset ∷ flip.target ∷ inputs flip

-- what an edge leaves in the register, by the bits of these cells
abbrev pub left_bit : Flip → Bool → Bool → Bool → List Bool → Bool
left_bit flip enable reset target ins = if enable then (if reset then flip.set else bit_of flip.table (number_of ins)) else target

-- the same by the index that the bits of these cells spell
abbrev pub left_at : Flip → ℕ → Bool
left_at flip index =
    left_bit flip (bit_of index 0) (bit_of index 1) (bit_of index 2) (bit_of index 3 ∷ bit_of index 4 ∷ bit_of index 5 ∷ bit_of index 6 ∷ [])

unfoldable pub flip_table : Flip → ℕ
flip_table flip = number_of (map (left_at flip) (range_with_len 0 128))

abbrev pub flip_gate : Flip → Gate
flip_gate flip = record { slot = flip.target; ins = flip_cells flip; table = flip_table flip }

-- flip-flops are watched from an index on
pub record AreAt (first : ℕ) (flips : List Flip) (watched : List Gate) : Type 0 where
  pub fit : first + length flips ≤ length watched
  pub are : (place : ℕ) → place < length flips → gate_at watched (first + place) ≡ flip_gate (flip_in flips place)

-- the registers of flip-flops rise, so that no two are the same
abbrev pub AreApart : List Flip → Type 0
AreApart flips = (place other : ℕ) → place < other → other < length flips → (flip_in flips place).target < (flip_in flips other).target
