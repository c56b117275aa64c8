-- The wires of a module are in order, and the registers with an asynchronous set or reset come before them.
use Rattle.std.proofs.Common.{◌≡◌, ℕ, zero, suc, ◌+◌, ◌*◌, ◌<◌, Bool, true, false, cond, List, [], ◌∷◌, ◌++◌, Option, Some, None, arith, get_or, length, length-append, ltb, refl, subst, sym}
use Rattle.std.specs.Prelude.{◌&&◌, bytes_eq, map}
use Rattle.std.specs.List.{cons_option, filter_map}
use Rattle.std.proofs.lemmas.List.{length_push}
use Rattle.vlog_module.specs.declared.atoms.Atom.{Atom}
use Rattle.vlog_module.specs.declared.atoms.Atom.TheVariants.{Bit, Whole, Part}
use Rattle.vlog_module.specs.declared.item.Item.{Item}
use Rattle.vlog_module.specs.declared.item.Item.TheVariants.{Wire as WireItem, AsyncFlipFlop, AsyncReset}
use Rattle.vlog_module.specs.declared.item.Right.{Right}
use Rattle.vlog_module.specs.declared.item.Right.TheVariants.{Bit as RightBit, Whole as RightWhole, Part as RightPart, Lut as RightLut, Majority, Choose}
use Rattle.vlog_module.specs.Maps.{value_in}
use Rattle.vlog_module.specs.Parts.{Parts}
use Rattle.vlog_semantics.specs.Cells.{gate_cells, gate_of, operand_cell, zero_cell}
use Rattle.vlog_semantics.specs.Laying.{bit_count, word_count}
use Rattle.vlog_semantics.specs.ModuleSlots.{module_wires, places_of, register_names, wire_names}
use Rattle.vlog_semantics.specs.Numbered.{numbered}
use Rattle.vlog_semantics.specs.Plans.{Places, of_two, operand_of, part_operand, rule_of, settle_of, slot_operand, wires_of}
use Rattle.vlog_semantics.specs.Run.{input_names}
use Rattle.vlog_semantics.specs.declared.plan.Operand.{Operand}
use Rattle.vlog_semantics.specs.declared.plan.Operand.TheVariants.{Constant, Slot, Part as PartOperand}
use Rattle.vlog_semantics.specs.declared.plan.Settle.{Settle}
use Rattle.vlog_engine.specs.Marks.{AreBefore}
use Rattle.vlog_engine.proofs.Operands.{operand-inside}
use Rattle.vlog_engine.proofs.Joining.{AreBelow, AreNumbered}

-- ---- the numbers of names

-- a number that is found is below
abbrev pub IsUnder : ℕ → Option ℕ → Type 0
IsUnder end (Some slot) = slot < end
IsUnder end None = Unit {0}

number-under : (from : ℕ) (names : List (List ℕ)) (name : List ℕ) → IsUnder (from + length names) (value_in (numbered from names) name)
number-under from [] name = tt
number-under from (first ∷ names) name =
    elim (bytes_eq first name) as (λ b. IsUnder (from + suc (length names)) (cond b (Some from) (value_in (numbered (from + 1) names) name))) [
      | true ↦ omega arith
      | false ↦ let next : from + 1 + length names ≡ from + suc (length names) = omega arith in subst (λ end. IsUnder end (value_in (numbered (from + 1) names) name)) next (number-under (from + 1) names name)
    ]

-- ---- what operands read

-- an operand that names no name of one bit from one on
abbrev IsEarly : ℕ → Operand → Type 0
IsEarly slot (Slot other) = other < slot
IsEarly slot _ = Unit {0}

early-slot : (end : ℕ) (found : Option ℕ) → IsUnder end found → IsEarly end (slot_operand found)
early-slot end (Some slot) under = under
early-slot end None under = tt

early-part : (end : ℕ) (found : Option ℕ) (k : ℕ) → IsEarly end (part_operand found k)
early-part end (Some word) k = tt
early-part end None k = tt

slot-before : (bits words slot other : ℕ) (b : Bool) → ltb other bits ≡ b → other < slot → cond b other (zero_cell bits words) < bits → cond b other (zero_cell bits words) < slot
slot-before bits words slot other true below early less = early
slot-before bits words slot other false above early less = absurd (omega (arith, less))

part-before : (bits words slot word k : ℕ) (b : Bool) → cond b (bits + 16 * word + k) (zero_cell bits words) < bits → cond b (bits + 16 * word + k) (zero_cell bits words) < slot
part-before bits words slot word k true less = absurd (omega (arith, less))
part-before bits words slot word k false less = absurd (omega (arith, less))

operand-before : (bits words slot : ℕ) (operand : Operand) → IsEarly slot operand → operand_cell bits words operand < bits → operand_cell bits words operand < slot
operand-before bits words slot (Constant true) early less = absurd (omega (arith, less))
operand-before bits words slot (Constant false) early less = absurd (omega (arith, less))
operand-before bits words slot (Slot other) early less = slot-before bits words slot other (ltb other bits) refl early less
operand-before bits words slot (PartOperand word k) early less = part-before bits words slot word k (ltb word words && ltb k 16) less

-- cells that a wire may read
abbrev AreFine : ℕ → ℕ → ℕ → List ℕ → Type 0
AreFine bits words slot cells = AreBefore bits slot cells × AreBelow (bits + 16 * words + 2) cells

fine-more : (bits words slot : ℕ) (operand : Operand) (cells : List ℕ) → IsEarly slot operand → AreFine bits words slot cells → AreFine bits words slot (operand_cell bits words operand ∷ cells)
fine-more bits words slot operand cells early fine = ((operand-before bits words slot operand early, fine.0), (operand-inside bits words operand, fine.1))

fine-zero : (bits words slot : ℕ) (cells : List ℕ) → AreFine bits words slot cells → AreFine bits words slot (zero_cell bits words ∷ cells)
fine-zero bits words slot cells fine = (((λ less. absurd (omega (arith, less))), fine.0), (omega arith, fine.1))

module _ (find : List ℕ → Option ℕ) (names : List (List ℕ)) where
  early-atom : (atom : Atom) → IsEarly (length names) (operand_of (value_in (numbered 0 names)) find atom)
  early-atom (Bit bit) = tt
  early-atom (Whole name) =
      early-slot (length names) (value_in (numbered 0 names) name)
      (let start : 0 + length names ≡ length names = omega arith in subst (λ end. IsUnder end (value_in (numbered 0 names) name)) start (number-under 0 names name))
  early-atom (Part name k) = early-part (length names) (find name) k

  early-name : (name : List ℕ) → IsEarly (length names) (slot_operand (value_in (numbered 0 names) name))
  early-name name = early-atom (Whole name)

  fine-atoms : (bits words : ℕ) (atoms : List Atom) → AreFine bits words (length names) (map (operand_cell bits words) (map (operand_of (value_in (numbered 0 names)) find) atoms))
  fine-atoms bits words [] = (tt, tt)
  fine-atoms bits words (atom ∷ atoms) = fine-more bits words (length names) (operand_of (value_in (numbered 0 names)) find atom) _ (early-atom atom) (fine-atoms bits words atoms)

  fine-right : (bits words : ℕ) (right : Right) → AreFine bits words (length names) (gate_cells bits words (rule_of (value_in (numbered 0 names)) find right))
  fine-right bits words right =
      let end : ℕ = length names in
      let z : ℕ = zero_cell bits words in
      let cell : Operand → ℕ = λ operand. operand_cell bits words operand in
      let atom : Atom → Operand = λ one. operand_of (value_in (numbered 0 names)) find one in
      let name_of : List ℕ → Operand = λ name. slot_operand (value_in (numbered 0 names) name) in
      let last : AreFine bits words end (z ∷ []) = fine-zero bits words end [] (tt, tt) in
      let two : AreFine bits words end (z ∷ z ∷ []) = fine-zero bits words end (z ∷ []) last in
      let three : AreFine bits words end (z ∷ z ∷ z ∷ []) = fine-zero bits words end (z ∷ z ∷ []) two in
      elim right as (λ r. AreFine bits words end (gate_cells bits words (rule_of (value_in (numbered 0 names)) find r))) [
        | RightBit bit ↦ fine-more bits words end (Constant bit) (z ∷ z ∷ z ∷ []) tt three
        | RightWhole name ↦ fine-more bits words end (name_of name) (z ∷ z ∷ z ∷ []) (early-name name) three
        | RightPart name k ↦ fine-more bits words end (part_operand (find name) k) (z ∷ z ∷ z ∷ []) (early-part end (find name) k) three
        | RightLut lut ↦ fine-atoms bits words lut.ins
        | Majority a b c ↦
            fine-more bits words end (atom a) (cell (atom b) ∷ cell (atom c) ∷ z ∷ []) (early-atom a)
            (fine-more bits words end (atom b) (cell (atom c) ∷ z ∷ []) (early-atom b) (fine-more bits words end (atom c) (z ∷ []) (early-atom c) last))
        | Choose reset set_to target ↦
            fine-more bits words end (name_of reset) (cell (name_of target) ∷ z ∷ z ∷ []) (early-name reset)
            (fine-more bits words end (name_of target) (z ∷ z ∷ []) (early-name target) two)
      ]

-- the wires of items that follow names
pub wires-numbered : (find : List ℕ → Option ℕ) (names : List (List ℕ)) (items : List Item) (bits words : ℕ) → length names + length (wire_names items) ≡ bits
    → AreNumbered (length names) bits (bits + 16 * words + 2) (map (gate_of bits words) (wires_of find names items))
wires-numbered find names [] bits words size = omega (arith, size)
wires-numbered find names (WireItem name right ∷ items) bits words size =
    let next : length (names ++ name ∷ []) ≡ length names + 1 = length_push names name in (
      (refl, omega (arith, size)),
      (
        fine-right find names bits words right,
        subst (λ from. AreNumbered from bits (bits + 16 * words + 2) (map (gate_of bits words) (wires_of find (names ++ name ∷ []) items))) next
            (wires-numbered find (names ++ name ∷ []) items bits words (omega (arith, size, next))),
      ),
    )
wires-numbered find names (item ∷ items) bits words size = wires-numbered find names items bits words size

pub module-numbered : (m : Parts) (first : ℕ) → first ≡ length (input_names m.ports ++ register_names m.items)
    → AreNumbered first (bit_count m) (bit_count m + 16 * word_count m + 2) (map (gate_of (bit_count m) (word_count m)) (module_wires m))
module-numbered m first is =
    subst (λ from. AreNumbered from (bit_count m) (bit_count m + 16 * word_count m + 2) (map (gate_of (bit_count m) (word_count m)) (module_wires m))) (sym is)
    (wires-numbered (places_of m).words (input_names m.ports ++ register_names m.items) m.items (bit_count m) (word_count m)
    (sym (length-append (input_names m.ports ++ register_names m.items) (wire_names m.items))))

-- ---- registers with an asynchronous set or reset

-- such a register comes before the wires
abbrev IsSetEarly : ℕ → Option Settle → Type 0
IsSetEarly first (Some settle) = settle.target < first
IsSetEarly first None = Unit {0}

two-early : (first : ℕ) (set_to : Bool) (wire target : Option ℕ) → IsUnder first target
    → IsSetEarly first (of_two wire target (λ wire slot. record { wire = wire; set = set_to; target = slot }))
two-early first set_to (Some wire) (Some slot) under = under
two-early first set_to (Some wire) None under = tt
two-early first set_to None target under = tt

found-early : (first : ℕ) (found : Option Settle) (rest : List Settle) (place : ℕ) (none : Settle) → IsSetEarly first found
    → ((p : ℕ) → p < length rest → (get_or rest p none).target < first) → place < length (cons_option found rest) → (get_or (cons_option found rest) place none).target < first
found-early first (Some settle) rest zero none early later inside = early
found-early first (Some settle) rest (suc place) none early later inside = later place (omega (arith, inside))
found-early first None rest place none early later inside = later place inside

module _ (at : Places) (first : ℕ) (under : (name : List ℕ) → IsUnder first (at.registers name)) where
  settle-early : (item : Item) → IsSetEarly first (settle_of at item)
  settle-early (AsyncFlipFlop falling clock reset set_to target enable lut) = two-early first set_to (at.bits reset) (at.registers target) (under target)
  settle-early (AsyncReset reset set_to target) = two-early first set_to (at.bits reset) (at.registers target) (under target)
  settle-early _ = tt

  pub settles-early : (items : List Item) (place : ℕ) (none : Settle) → place < length (filter_map (settle_of at) items) → (get_or (filter_map (settle_of at) items) place none).target < first
  settles-early [] place none inside = absurd (omega arith)
  settles-early (item ∷ items) place none inside =
      found-early first (settle_of at item) (filter_map (settle_of at) items) place none (settle-early item) (λ p within. settles-early items p none within) inside

pub module-under : (m : Parts) (name : List ℕ) → IsUnder (length (input_names m.ports ++ register_names m.items)) ((places_of m).registers name)
module-under m name =
    subst (λ end. IsUnder end ((places_of m).registers name)) (sym (length-append (input_names m.ports) (register_names m.items)))
    (number-under (length (input_names m.ports)) (register_names m.items) name)

pub module-settles : (m : Parts) (first place : ℕ) (none : Settle) → first ≡ length (input_names m.ports ++ register_names m.items)
    → place < length (filter_map (settle_of (places_of m)) m.items) → (get_or (filter_map (settle_of (places_of m)) m.items) place none).target < first
module-settles m first place none is inside =
    subst (λ end. (get_or (filter_map (settle_of (places_of m)) m.items) place none).target < end) (sym is)
    (settles-early (places_of m) (length (input_names m.ports ++ register_names m.items)) (module-under m) m.items place none inside)
