-- Cells have what operands read, and wires over them get their values.
use Rattle.std.proofs.Common.{◌≡◌, ℕ, zero, suc, ◌+◌, ◌*◌, ◌/◌, ◌%◌, ◌^◌, ◌<◌, Bool, true, false, cond, eqb, List, [], ◌∷◌, ◌++◌, ap, ap₂, arith, fold, get_or, length, ltb, refl, set, subst, sym, take, ◌∙◌}
use Rattle.std.specs.Prelude.{◌&&◌, map}
use Rattle.std.proofs.Math.Nat.{zero-div}
use Rattle.std.proofs.Math.Seq.{set_out}
use Rattle.std.proofs.lemmas.Bool.{ltb-false, ltb-true}
use Rattle.std.proofs.lemmas.List.{get_or-append-add, get_or_append_left, get_or_at, get_or_past, length-set, length_push, set-append_left, take_more_set}
use Rattle.vlog_semantics.specs.Cells.{cell_at, cells_of, gate_of, gate_slot, gate_value, operand_cell, part_at, parts_below, tail_of, zero_cell}
use Rattle.vlog_semantics.specs.declared.plan.Operand.{Operand}
use Rattle.vlog_semantics.specs.declared.plan.Operand.TheVariants.{Constant, Slot, Part}
use Rattle.vlog_semantics.specs.declared.plan.Rule.TheVariants.{Copy, Lookup, Majority, Choose}
use Rattle.vlog_semantics.specs.declared.plan.Plan.{Plan}
use Rattle.vlog_semantics.specs.declared.plan.Settle.{Settle}
use Rattle.vlog_semantics.specs.declared.plan.Wire.{Wire}
use Rattle.vlog_semantics.specs.Steps.{operand_value, rule_value, settle_slot, settled_slots, wire_slot}
use Rattle.vlog_semantics.specs.Values.{bit_of, majority, number_of}
use Rattle.vlog_semantics.proofs.Numbers.{bit_of-high}

-- each word has 16 bits
abbrev pub AreWords : List ℕ → Type 0
AreWords words = (w : ℕ) → get_or words w 0 < 65536

-- ---- the bits of words

pub length-parts : (words : List ℕ) (n : ℕ) → length (parts_below words n) ≡ n
length-parts words zero = refl
length-parts words (suc n) = omega (arith, length_push (parts_below words n) (part_at words n), length-parts words n)

-- one place more
pub parts-more : (words : List ℕ) (parts : List Bool) (place : ℕ) (bit : Bool) → place < length parts → take place parts ≡ parts_below words place → bit ≡ part_at words place
    → take (place + 1) (set parts place bit) ≡ parts_below words (place + 1)
parts-more words parts place bit room so_far is =
    let next : suc place ≡ place + 1 = omega arith in
    take_more_set parts place bit room ∙ ap₂ (λ list b. list ++ b ∷ []) so_far is ∙ ap (parts_below words) next

part-case : (words : List ℕ) (n i : ℕ) (b : Bool) → ltb i n ≡ b → i < suc n → (i < n → get_or (parts_below words n) i false ≡ part_at words i)
    → get_or (parts_below words n ++ part_at words n ∷ []) i false ≡ part_at words i
part-case words n i true below lt rest =
    get_or_append_left (parts_below words n) (part_at words n ∷ []) false i (omega (arith, length-parts words n, ltb-true i n below)) ∙ rest (ltb-true i n below)
part-case words n i false above lt rest =
    let same : i ≡ n = omega (arith, ltb-false i n above) in
    get_or_at (parts_below words n) (part_at words n) [] false i (length-parts words n ∙ sym same) ∙ ap (part_at words) (sym same)

pub part-in : (words : List ℕ) (n i : ℕ) → i < n → get_or (parts_below words n) i false ≡ part_at words i
part-in words zero i lt = absurd (omega arith)
part-in words (suc n) i lt = part-case words n i (ltb i n) refl lt (part-in words n i)

-- ---- operands

zero-in : (bits : List Bool) (words : List ℕ) → cell_at (cells_of bits words) (zero_cell (length bits) (length words)) ≡ false
zero-in bits words =
    get_or-append-add bits (tail_of words) (16 * length words) false
    ∙ get_or_at (parts_below words (16 * length words)) false (true ∷ []) false (16 * length words) (length-parts words (16 * length words))

one-in : (bits : List Bool) (words : List ℕ) → cell_at (cells_of bits words) (zero_cell (length bits) (length words) + 1) ≡ true
one-in bits words =
    let n : ℕ = 16 * length words in
    let sum : length bits + n + 1 ≡ length bits + (n + 1) = omega arith in
    ap (λ i. get_or (cells_of bits words) i false) sum
    ∙ get_or-append-add bits (tail_of words) (n + 1) false
    ∙ ap (λ k. get_or (tail_of words) (k + 1) false) (sym (length-parts words n))
    ∙ get_or-append-add (parts_below words n) (false ∷ true ∷ []) 1 false

slot-case : (bits : List Bool) (words : List ℕ) (slot : ℕ) (b : Bool) → ltb slot (length bits) ≡ b
    → cell_at (cells_of bits words) (cond b slot (zero_cell (length bits) (length words))) ≡ get_or bits slot false
slot-case bits words slot true below = get_or_append_left bits (tail_of words) false slot (ltb-true slot (length bits) below)
slot-case bits words slot false above = zero-in bits words ∙ sym (get_or_past bits slot false (ltb-false slot (length bits) above))

bit_of-zero : (k : ℕ) → bit_of 0 k ≡ false
bit_of-zero k = ap (λ n. eqb (n % 2) 1) (zero-div (2 ^ k))

part-value-case : (bits : List Bool) (words : List ℕ) (word k : ℕ) (b c : Bool) → AreWords words → ltb word (length words) ≡ b → ltb k 16 ≡ c
    → cell_at (cells_of bits words) (cond (b && c) (length bits + 16 * word + k) (zero_cell (length bits) (length words))) ≡ bit_of (get_or words word 0) k
part-value-case bits words word k true true small below low =
    let n : ℕ = length bits in
    let i : ℕ = 16 * word + k in
    let end : ℕ = 16 * length words in
    let here : word < length words = ltb-true word (length words) below in
    let narrow : k < 16 = ltb-true k 16 low in
    let sum : n + 16 * word + k ≡ n + i = omega arith in
    let within : i < end = omega arith in
    let quotient : i / 16 ≡ word = omega arith in
    let remainder : i % 16 ≡ k = omega arith in
    ap (λ cell. get_or (cells_of bits words) cell false) sum
    ∙ get_or-append-add bits (tail_of words) i false
    ∙ get_or_append_left (parts_below words end) (false ∷ true ∷ []) false i (subst (λ m. i < m) (sym (length-parts words end)) within)
    ∙ part-in words end i within
    ∙ ap₂ (λ w b. bit_of (get_or words w 0) b) quotient remainder
part-value-case bits words word k true false small below high =
    zero-in bits words ∙ sym (bit_of-high (get_or words word 0) k (small word) (ltb-false k 16 high))
part-value-case bits words word k false c small above other =
    zero-in bits words ∙ sym (ap (λ w. bit_of w k) (get_or_past words word 0 (ltb-false word (length words) above)) ∙ bit_of-zero k)

pub operand-in : (bits : List Bool) (words : List ℕ) (operand : Operand) → AreWords words
    → cell_at (cells_of bits words) (operand_cell (length bits) (length words) operand) ≡ operand_value bits words operand
operand-in bits words (Constant true) small = one-in bits words
operand-in bits words (Constant false) small = zero-in bits words
operand-in bits words (Slot slot) small = slot-case bits words slot (ltb slot (length bits)) refl
operand-in bits words (Part word k) small = part-value-case bits words word k (ltb word (length words)) (ltb k 16) small refl refl

operands-in : (bits : List Bool) (words : List ℕ) (operands : List Operand) → AreWords words
    → map (cell_at (cells_of bits words)) (map (operand_cell (length bits) (length words)) operands) ≡ map (operand_value bits words) operands
operands-in bits words [] small = refl
operands-in bits words (operand ∷ operands) small = ap₂ (λ bit bits. bit ∷ bits) (operand-in bits words operand small) (operands-in bits words operands small)

-- ---- wires

copy-table : (a : Bool) → bit_of 2 (number_of (a ∷ false ∷ false ∷ false ∷ [])) ≡ a
copy-table true = refl
copy-table false = refl

majority-table : (a b c : Bool) → bit_of 232 (number_of (a ∷ b ∷ c ∷ false ∷ [])) ≡ majority a b c
majority-table true true true = refl
majority-table true true false = refl
majority-table true false true = refl
majority-table true false false = refl
majority-table false true true = refl
majority-table false true false = refl
majority-table false false true = refl
majority-table false false false = refl

choose-table : (reset set_to target : Bool) → bit_of (cond set_to 14 4) (number_of (reset ∷ target ∷ false ∷ false ∷ [])) ≡ cond reset set_to target
choose-table true true true = refl
choose-table true true false = refl
choose-table true false true = refl
choose-table true false false = refl
choose-table false true true = refl
choose-table false true false = refl
choose-table false false true = refl
choose-table false false false = refl

-- a wire over cells has the value of its right side
pub gate-same : (bits : List Bool) (words : List ℕ) (wire : Wire) → AreWords words
    → gate_value (cells_of bits words) (gate_of (length bits) (length words) wire) ≡ rule_value bits words wire.rule
gate-same bits words wire small =
    let zero_is : cell_at (cells_of bits words) (zero_cell (length bits) (length words)) ≡ false = zero-in bits words in
    elim wire.rule as (λ rule. gate_value (cells_of bits words) (gate_of (length bits) (length words) (record { slot = wire.slot; rule = rule })) ≡ rule_value bits words rule) [
      | Copy operand ↦
          ap₂ (λ a z. bit_of 2 (number_of (a ∷ z ∷ z ∷ z ∷ []))) (operand-in bits words operand small) zero_is ∙ copy-table (operand_value bits words operand)
      | Lookup table ↦ ap (λ list. bit_of table.word (number_of list)) (operands-in bits words table.ins small)
      | Majority a b c ↦
          ap₂ (λ x y. bit_of 232 (number_of (x ∷ y ∷ cell_at (cells_of bits words) (operand_cell (length bits) (length words) c) ∷ cell_at (cells_of bits words) (zero_cell (length bits) (length words)) ∷ []))) (operand-in bits words a small) (operand-in bits words b small)
          ∙ ap₂ (λ z o. bit_of 232 (number_of (operand_value bits words a ∷ operand_value bits words b ∷ z ∷ o ∷ []))) (operand-in bits words c small) zero_is
          ∙ majority-table (operand_value bits words a) (operand_value bits words b) (operand_value bits words c)
      | Choose reset set_to target ↦
          ap₂ (λ x y. bit_of (cond set_to 14 4) (number_of (x ∷ y ∷ cell_at (cells_of bits words) (zero_cell (length bits) (length words)) ∷ cell_at (cells_of bits words) (zero_cell (length bits) (length words)) ∷ []))) (operand-in bits words reset small) (operand-in bits words target small)
          ∙ ap (λ z. bit_of (cond set_to 14 4) (number_of (operand_value bits words reset ∷ operand_value bits words target ∷ z ∷ z ∷ []))) zero_is
          ∙ choose-table (operand_value bits words reset) set_to (operand_value bits words target)
    ]

set-case : (bits : List Bool) (after : List Bool) (slot : ℕ) (value : Bool) (b : Bool) → ltb slot (length bits) ≡ b
    → cond b (set (bits ++ after) slot value) (bits ++ after) ≡ set bits slot value ++ after
set-case bits after slot value true below = set-append_left bits after slot value (ltb-true slot (length bits) below)
set-case bits after slot value false above = ap (λ list. list ++ after) (sym (set_out bits slot value (ltb-false slot (length bits) above)))

gate-step : (bits : List Bool) (words : List ℕ) (wire : Wire) → AreWords words
    → gate_slot (length bits) (cells_of bits words) (gate_of (length bits) (length words) wire) ≡ cells_of (wire_slot words bits wire) words
gate-step bits words wire small =
    ap (λ value. cond (ltb wire.slot (length bits)) (set (cells_of bits words) wire.slot value) (cells_of bits words)) (gate-same bits words wire small)
    ∙ set-case bits (tail_of words) wire.slot (rule_value bits words wire.rule) (ltb wire.slot (length bits)) refl

-- all wires, one after the other
pub gates-same : (size : ℕ) (bits : List Bool) (words : List ℕ) (wires : List Wire) → AreWords words → size ≡ length bits
    → fold (gate_slot size) (cells_of bits words) (map (gate_of size (length words)) wires) ≡ cells_of (fold (wire_slot words) bits wires) words
gates-same size bits words [] small is = refl
gates-same size bits words (wire ∷ wires) small is =
    let here : gate_slot size (cells_of bits words) (gate_of size (length words) wire) ≡ cells_of (wire_slot words bits wire) words =
    ap (λ n. gate_slot n (cells_of bits words) (gate_of n (length words) wire)) is ∙ gate-step bits words wire small in
    ap (λ cells. fold (gate_slot size) cells (map (gate_of size (length words)) wires)) here
    ∙ gates-same size (wire_slot words bits wire) words wires small (is ∙ sym (length-set bits wire.slot (rule_value bits words wire.rule)))

-- the number of bits stays
pub length-settled : (bits : List Bool) (words : List ℕ) (wires : List Wire) → length (fold (wire_slot words) bits wires) ≡ length bits
length-settled bits words [] = refl
length-settled bits words (wire ∷ wires) = length-settled (wire_slot words bits wire) words wires ∙ length-set bits wire.slot (rule_value bits words wire.rule)

length-rested : (bits next : List Bool) (settles : List Settle) → length (fold (settle_slot bits) next settles) ≡ length next
length-rested bits next [] = refl
length-rested bits next (settle ∷ settles) =
    length-rested bits (settle_slot bits next settle) settles
    ∙ (elim (get_or bits settle.wire false) as (λ b. length (cond b (set next settle.target settle.set) next) ≡ length next) [
      | true ↦ length-set next settle.target settle.set
      | false ↦ refl
    ])

pub length-slots : (plan : Plan) (bits : List Bool) (words : List ℕ) (wires : List Wire) → length (settled_slots plan wires words bits) ≡ length bits
length-slots plan bits words wires =
    length-rested (fold (wire_slot words) bits wires) (fold (wire_slot words) bits wires) plan.settles.items ∙ length-settled bits words wires
