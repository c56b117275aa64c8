-- Wires rise, and read only what comes before.
use Rattle.std.proofs.Common.{◌≡◌, ℕ, zero, suc, ◌+◌, ◌<◌, ◌≤◌, Bool, true, false, eqb, List, [], ◌∷◌, ap, ap₂, arith, length, refl, set, sym, ◌∙◌}
use Rattle.std.specs.Prelude.{◌||◌, map}
use Rattle.std.proofs.lemmas.Bool.{eqb-false, ne_eqb}
use Rattle.std.proofs.lemmas.List.{get_or-set_other}
use Rattle.vlog_semantics.specs.declared.gates.Gate.{Gate}
use Rattle.vlog_semantics.specs.Cells.{cell_at, gate_value}
use Rattle.vlog_semantics.specs.Values.{bit_of, number_of}
use Rattle.vlog_engine.specs.Marks.{AreBefore, AreRising, IsEven, gate_at, has, touches}

pub or-false : (a b : Bool) → (a || b) ≡ false → (a ≡ false) × (b ≡ false)
or-false true b is = absurd cc
or-false false b is = (refl, is)

pub false-or : (a b : Bool) → a ≡ false → b ≡ false → (a || b) ≡ false
false-or true b is other = is
false-or false b is other = other

-- ---- what wires have

pub slot-within : (low count : ℕ) (gates : List Gate) (place : ℕ) → AreRising low count gates → place < length gates
    → (low ≤ (gate_at gates place).slot) × ((gate_at gates place).slot < count)
slot-within low count [] place rising within = absurd (omega arith)
slot-within low count (gate ∷ gates) zero rising within = (rising.0.0, rising.0.1)
slot-within low count (gate ∷ gates) (suc place) rising within =
    let rest = slot-within (gate.slot + 1) count gates place rising.1.1 (omega arith) in
    (omega (arith, rest.0, rising.0.0), rest.1)

none-before : (count slot : ℕ) (ins : List ℕ) (cell : ℕ) → AreBefore count slot ins → slot ≤ cell → cell < count → has ins cell ≡ false
none-before count slot [] cell before above within = refl
none-before count slot (first ∷ ins) cell before above within =
    false-or (eqb first cell) (has ins cell)
    (ne_eqb first cell (λ same. let less : first < slot = before.0 (omega arith) in omega arith))
    (none-before count slot ins cell before.1 above within)

-- a wire doesn't read its own cell, or a later wire's
pub reads-none : (low count : ℕ) (gates : List Gate) (place later : ℕ) → AreRising low count gates → place ≤ later → later < length gates
    → has (gate_at gates place).ins (gate_at gates later).slot ≡ false
reads-none low count [] place later rising order within = absurd (omega arith)
reads-none low count (gate ∷ gates) zero zero rising order within = none-before count gate.slot gate.ins gate.slot rising.1.0 (omega arith) rising.0.1
reads-none low count (gate ∷ gates) zero (suc later) rising order within =
    let at = slot-within (gate.slot + 1) count gates later rising.1.1 (omega arith) in
    none-before count gate.slot gate.ins (gate_at gates later).slot rising.1.0 (omega (arith, at.0)) at.1
reads-none low count (gate ∷ gates) (suc place) zero rising order within = absurd (omega arith)
reads-none low count (gate ∷ gates) (suc place) (suc later) rising order within =
    reads-none (gate.slot + 1) count gates place later rising.1.1 (omega arith) (omega arith)

pub slots-apart : (low count : ℕ) (gates : List Gate) (place later : ℕ) → AreRising low count gates → place < later → later < length gates
    → (gate_at gates place).slot < (gate_at gates later).slot
slots-apart low count [] place later rising order within = absurd (omega arith)
slots-apart low count (gate ∷ gates) place zero rising order within = absurd (omega arith)
slots-apart low count (gate ∷ gates) zero (suc later) rising order within =
    let at = slot-within (gate.slot + 1) count gates later rising.1.1 (omega arith) in omega (arith, at.0)
slots-apart low count (gate ∷ gates) (suc place) (suc later) rising order within =
    slots-apart (gate.slot + 1) count gates place later rising.1.1 (omega arith) (omega arith)

-- a later wire's cell doesn't bear on a wire
pub later-apart : (low count : ℕ) (gates : List Gate) (place later : ℕ) → AreRising low count gates → place < later → later < length gates
    → touches (gate_at gates place) (gate_at gates later).slot ≡ false
later-apart low count gates place later rising order within =
    let less = slots-apart low count gates place later rising order within in
    false-or (eqb (gate_at gates place).slot (gate_at gates later).slot) (has (gate_at gates place).ins (gate_at gates later).slot)
    (ne_eqb _ _ (λ same. omega (arith, less, same)))
    (reads-none low count gates place later rising (omega arith) within)

-- ---- a cell that a wire doesn't read

same-cells : (cells : List Bool) (cell : ℕ) (bit : Bool) (ins : List ℕ) → has ins cell ≡ false → map (cell_at (set cells cell bit)) ins ≡ map (cell_at cells) ins
same-cells cells cell bit [] apart = refl
same-cells cells cell bit (first ∷ ins) apart =
    let parts = or-false (eqb first cell) (has ins cell) apart in
    ap₂ (λ a b. a ∷ b) (get_or-set_other cells cell first bit false (eqb-false first cell parts.0)) (same-cells cells cell bit ins parts.1)

pub same-value : (cells : List Bool) (cell : ℕ) (bit : Bool) (gate : Gate) → has gate.ins cell ≡ false → gate_value (set cells cell bit) gate ≡ gate_value cells gate
same-value cells cell bit gate apart = ap (λ list. bit_of gate.table (number_of list)) (same-cells cells cell bit gate.ins apart)

pub stays-even : (cells : List Bool) (cell : ℕ) (bit : Bool) (gate : Gate) → touches gate cell ≡ false → IsEven cells gate → IsEven (set cells cell bit) gate
stays-even cells cell bit gate apart even =
    let parts = or-false (eqb gate.slot cell) (has gate.ins cell) apart in
    get_or-set_other cells cell gate.slot bit false (eqb-false gate.slot cell parts.0) ∙ even ∙ sym (same-value cells cell bit gate parts.1)
