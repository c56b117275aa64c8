-- One list of bits: the bits of names, the bits of words and the two constants; and wires over it, each as a LUT of four inputs.
use Rattle.std.specs.Prelude.{ℕ, zero, suc, ◌+◌, ◌*◌, ◌/◌, ◌%◌, Bool, true, false, ◌&&◌, List, [], ◌∷◌, ◌++◌, get_or, length, map, nat_lt, slice_set, if◌then◌else◌}
use Rattle.vlog_semantics.specs.declared.gates.Gate.{Gate}
use Rattle.vlog_semantics.specs.declared.plan.Operand.{Operand}
use Rattle.vlog_semantics.specs.declared.plan.Operand.TheVariants.{Constant, Slot, Part}
use Rattle.vlog_semantics.specs.declared.plan.Rule.{Rule}
use Rattle.vlog_semantics.specs.declared.plan.Rule.TheVariants.{Copy, Lookup, Majority, Choose}
use Rattle.vlog_semantics.specs.declared.plan.Wire.{Wire}
use Rattle.vlog_semantics.specs.Values.{bit_of, number_of}

-- ---- cells

-- bit k of word w has the index 16 w + k
abbrev pub part_at : List ℕ → ℕ → Bool
part_at words place = bit_of (get_or words (place / 16) 0) (place % 16)

-- the bits of words at the indexes below this one
abbrev pub parts_below : List ℕ → ℕ → List Bool
parts_below words zero = []
parts_below words (suc place) = parts_below words place ++ part_at words place ∷ []

-- the bits of names are followed by the bits of words, then 0 and 1
abbrev pub tail_of : List ℕ → List Bool
tail_of words = parts_below words (16 * length words) ++ false ∷ true ∷ []

abbrev pub cells_of : List Bool → List ℕ → List Bool
cells_of bits words = bits ++ tail_of words

abbrev pub cell_at : List Bool → ℕ → Bool
cell_at cells cell = get_or cells cell false

-- the cell of the constant 0, if there are this many bits of names and words
abbrev pub zero_cell : ℕ → ℕ → ℕ
zero_cell bits words = bits + 16 * words

-- the cell of an operand; an operand that names nothing is the constant 0
abbrev pub operand_cell : ℕ → ℕ → Operand → ℕ
operand_cell bits words (Constant bit) = if bit then zero_cell bits words + 1 else zero_cell bits words
operand_cell bits words (Slot slot) = if nat_lt slot bits then slot else zero_cell bits words
operand_cell bits words (Part word k) = if nat_lt word words && nat_lt k 16 then bits + 16 * word + k else zero_cell bits words

-- ---- wires

-- the fan-in of a right side: the cells that it reads
abbrev pub gate_cells : ℕ → ℕ → Rule → List ℕ
gate_cells bits words (Copy operand) =
    operand_cell bits words operand ∷ zero_cell bits words ∷ zero_cell bits words ∷ zero_cell bits words ∷ []
gate_cells bits words (Lookup table) = map (operand_cell bits words) table.ins
gate_cells bits words (Majority a b c) =
    operand_cell bits words a ∷ operand_cell bits words b ∷ operand_cell bits words c ∷ zero_cell bits words ∷ []
gate_cells bits words (Choose reset set target) =
    operand_cell bits words reset ∷ operand_cell bits words target ∷ zero_cell bits words ∷ zero_cell bits words ∷ []

-- the truth table of a right side over its cells, the first of which has the lowest bit of the index: a copy is 1 at 1, a majority at
-- 3, 5, 6 and 7; a choice between the constant 1 and the register is 1 at 1, 2 and 3, one between 0 and the register at 2
abbrev pub gate_table : Rule → ℕ
gate_table (Copy operand) = 2
gate_table (Lookup table) = table.word
gate_table (Majority a b c) = 232
gate_table (Choose reset set target) = if set then 14 else 4

abbrev pub gate_of : ℕ → ℕ → Wire → Gate
gate_of bits words wire = record { slot = wire.slot; ins = gate_cells bits words wire.rule; table = gate_table wire.rule }

-- the bit of the truth table at the index that the cells spell
abbrev pub gate_value : List Bool → Gate → Bool
gate_value cells gate = bit_of gate.table (number_of (map (cell_at cells) gate.ins))

-- the value of a wire is computed; its cell is one of those of names, which come first
abbrev pub gate_slot : ℕ → List Bool → Gate → List Bool
gate_slot bits cells gate = if nat_lt gate.slot bits then slice_set cells gate.slot (gate_value cells gate) else cells
