-- Wires that have their values show what the wires of the text have.
use Rattle.std.proofs.Common.{◌≡◌, ℕ, zero, suc, ◌+◌, ◌-◌, ◌<◌, ◌≤◌, Bool, true, false, cond, eqb, List, [], ◌∷◌, ◌++◌, ap, ap₂, arith, flat_map, fold, inl, inr, length, refl, set, subst, sym, ◌∙◌}
use Rattle.std.specs.Prelude.{◌||◌, map}
use Rattle.std.proofs.lemmas.Bool.{cases_Bool, cases_eq, cases_lt, eq-eqb, eqb-true}
use Rattle.std.proofs.lemmas.List.{ext_get_or, get_or-append-add, get_or-map, get_or-set_other, get_or-set_same, get_or_append_left, length-append, length-set}
use Rattle.vlog_semantics.specs.declared.gates.Gate.{Gate}
use Rattle.vlog_semantics.specs.declared.plan.Wire.{Wire}
use Rattle.vlog_semantics.specs.Cells.{cell_at, cells_of, gate_of, gate_value, tail_of}
use Rattle.vlog_semantics.specs.Steps.{rule_value, wire_slot}
use Rattle.vlog_semantics.specs.Values.{bit_of, number_of}
use Rattle.vlog_semantics.proofs.Cells.{AreWords, gate-same}
use Rattle.vlog_engine.specs.Circuits.{kept_gate, shown_by}
use Rattle.vlog_engine.specs.Marks.{AreBefore, AreRising, IsEven, gate_at, has, no_gate, touches, AreWithin}
use Rattle.vlog_engine.specs.Resolved.{resolved_gate}
use Rattle.vlog_engine.specs.Roots.{root}
use Rattle.vlog_engine.proofs.Joining.{AreBelow, AreNumbered, Follows, copied-is}
use Rattle.vlog_engine.proofs.Joining.Follows.{keeps, copies}

-- ---- the wires that don't copy

eq-true : (a b : ℕ) → a ≡ b → eqb a b ≡ true
eq-true a b is = eq-eqb a b is

-- a wire that has its own cell is among those that don't copy
pub record IsKept (kept : List Gate) (gate : Gate) : Type 0 where
  pub place : ℕ
  pub inside : place < length kept
  pub is : gate_at kept place ≡ gate

kept-later : (before kept : List Gate) (gate : Gate) → IsKept kept gate → IsKept (before ++ kept) gate
kept-later before kept gate found = record {
  place = length before + found.place;
  inside = omega (arith, found.inside, length-append before kept);
  is = get_or-append-add before kept found.place no_gate ∙ found.is;
}

pub kept-at : (roots : List ℕ) (gates : List Gate) (place : ℕ) → place < length gates → root roots (gate_at gates place).slot ≡ (gate_at gates place).slot
    → IsKept (flat_map (kept_gate roots) gates) (resolved_gate roots (gate_at gates place))
kept-at roots [] place inside own = absurd (omega arith)
kept-at roots (gate ∷ gates) zero inside own =
    subst (λ b. IsKept (cond b (resolved_gate roots gate ∷ []) [] ++ flat_map (kept_gate roots) gates) (resolved_gate roots gate)) (sym (eq-true (root roots gate.slot) gate.slot own))
    (record { place = 0; inside = omega arith; is = refl })
kept-at roots (gate ∷ gates) (suc place) inside own =
    kept-later (kept_gate roots gate) (flat_map (kept_gate roots) gates) (resolved_gate roots (gate_at gates place)) (kept-at roots gates place (omega (arith, inside)) own)

-- they rise, and read only what comes before
weaken : (low from count : ℕ) (gates : List Gate) → low ≤ from → AreRising from count gates → AreRising low count gates
weaken low from count [] less rising = rising
weaken low from count (gate ∷ gates) less rising = ((omega (arith, less, rising.0.0), rising.0.1), rising.1)

before-roots : (roots : List ℕ) (count total slot : ℕ) (ins : List ℕ) → ((cell : ℕ) → root roots cell < count → root roots cell ≤ cell)
    → ((cell : ℕ) → count ≤ cell → cell < total → root roots cell ≡ cell) → AreBefore count slot ins → AreBelow total ins → AreBefore count slot (map (root roots) ins)
before-roots roots count total slot [] low own before below = before
before-roots roots count total slot (cell ∷ ins) low own before below = (
  (λ less. elim (cases_lt cell count) [
    | inl name ↦ omega (arith, low cell less, before.0 name)
    | inr rest ↦ absurd (omega (arith, less, rest, own cell rest below.0))
  ]),
  before-roots roots count total slot ins low own before.1 below.1,
)

pub kept-rise : (roots : List ℕ) (from count total : ℕ) (gates : List Gate) → ((cell : ℕ) → root roots cell < count → root roots cell ≤ cell)
    → ((cell : ℕ) → count ≤ cell → cell < total → root roots cell ≡ cell) → AreNumbered from count total gates → AreRising from count (flat_map (kept_gate roots) gates)
kept-rise roots from count total [] low own numbered = tt
kept-rise roots from count total (gate ∷ gates) low own numbered =
    let rest : AreRising (from + 1) count (flat_map (kept_gate roots) gates) = kept-rise roots (from + 1) count total gates low own numbered.1.1 in
    elim (eqb (root roots gate.slot) gate.slot) as (λ b. AreRising from count (cond b (resolved_gate roots gate ∷ []) [] ++ flat_map (kept_gate roots) gates)) [
      | true ↦ (
        (omega (arith, numbered.0.0), omega (arith, numbered.0.0, numbered.0.1)),
        (
          subst (λ slot. AreBefore count slot (map (root roots) gate.ins)) (sym numbered.0.0) (before-roots roots count total from gate.ins low own numbered.1.0.0 numbered.1.0.1),
          subst (λ slot. AreRising (slot + 1) count (flat_map (kept_gate roots) gates)) (sym numbered.0.0) rest,
        ),
      )
      | false ↦ weaken from (from + 1) count (flat_map (kept_gate roots) gates) (omega arith) rest
    ]

-- the cells that bear on them are in range
has-roots : (roots : List ℕ) (total cell : ℕ) (ins : List ℕ) → ((cell : ℕ) → root roots cell < total) → has (map (root roots) ins) cell ≡ true → cell < total
has-roots roots total cell [] below is = absurd cc
has-roots roots total cell (first ∷ ins) below is =
    elim (cases_Bool (eqb (root roots first) cell)) [
      | inl same ↦ subst (λ k. k < total) (eqb-true (root roots first) cell same) (below first)
      | inr apart ↦ has-roots roots total cell ins below (ap (λ b. b || has (map (root roots) ins) cell) (sym apart) ∙ is)
    ]

pub kept-within : (roots : List ℕ) (total : ℕ) (gates : List Gate) → ((cell : ℕ) → root roots cell < total) → AreWithin total (flat_map (kept_gate roots) gates)
kept-within roots total [] below place cell = λ inside near. absurd (omega arith)
kept-within roots total (gate ∷ gates) below place cell =
    elim (cases_Bool (eqb (root roots gate.slot) gate.slot)) [
      | inl own ↦
          subst (λ b. place < length (cond b (resolved_gate roots gate ∷ []) [] ++ flat_map (kept_gate roots) gates)
          → touches (gate_at (cond b (resolved_gate roots gate ∷ []) [] ++ flat_map (kept_gate roots) gates) place) cell ≡ true → cell < total) (sym own)
          (elim place as (λ p. p < suc (length (flat_map (kept_gate roots) gates)) → touches (gate_at (resolved_gate roots gate ∷ flat_map (kept_gate roots) gates) p) cell ≡ true → cell < total) [
            | zero ↦ λ inside near.
                elim (cases_Bool (eqb gate.slot cell)) [
                  | inl same ↦ subst (λ k. k < total) (eqb-true (root roots gate.slot) gate.slot own ∙ eqb-true gate.slot cell same) (below gate.slot)
                  | inr apart ↦ has-roots roots total cell gate.ins below (ap (λ b. b || has (map (root roots) gate.ins) cell) (sym apart) ∙ near)
                ]
            | suc p ↦ λ inside near. kept-within roots total gates below p cell (omega (arith, inside)) near
          ])
      | inr copy ↦
          subst (λ b. place < length (cond b (resolved_gate roots gate ∷ []) [] ++ flat_map (kept_gate roots) gates)
          → touches (gate_at (cond b (resolved_gate roots gate ∷ []) [] ++ flat_map (kept_gate roots) gates) place) cell ≡ true → cell < total) (sym copy)
          (kept-within roots total gates below place cell)
    ]

-- ---- each wire of the text shows its value

copy-value : (a : Bool) → bit_of 2 (number_of (a ∷ false ∷ false ∷ false ∷ [])) ≡ a
copy-value true = refl
copy-value false = refl

pub shown-cell : (roots : List ℕ) (cells : List Bool) (cell : ℕ) → cell < length roots → cell_at (shown_by roots cells) cell ≡ cell_at cells (root roots cell)
shown-cell roots cells cell inside = get_or-map (cell_at cells) roots cell 0 false inside

shown-ins : (roots : List ℕ) (cells : List Bool) (ins : List ℕ) → AreBelow (length roots) ins → map (cell_at (shown_by roots cells)) ins ≡ map (cell_at cells) (map (root roots) ins)
shown-ins roots cells [] below = refl
shown-ins roots cells (cell ∷ ins) below = ap₂ (λ b rest. b ∷ rest) (shown-cell roots cells cell below.0) (shown-ins roots cells ins below.1)

pub wire-shown : (z : ℕ) (roots : List ℕ) (cells : List Bool) (gate : Gate) (kept : List Gate) → Follows z roots gate → AreBelow (length roots) gate.ins → gate.slot < length roots
    → cell_at (shown_by roots cells) z ≡ false → (root roots gate.slot ≡ gate.slot → IsKept kept (resolved_gate roots gate)) → ((place : ℕ) → place < length kept → IsEven cells (gate_at kept place))
    → IsEven (shown_by roots cells) gate
wire-shown z roots cells gate kept (keeps own) below inside off found even =
    let here : IsKept kept (resolved_gate roots gate) = found own in
    let value : IsEven cells (resolved_gate roots gate) = subst (IsEven cells) here.is (even here.place here.inside) in
    shown-cell roots cells gate.slot inside ∙ ap (cell_at cells) own ∙ value ∙ ap (λ list. bit_of gate.table (number_of list)) (sym (shown-ins roots cells gate.ins below))
wire-shown z roots cells gate kept (copies source is takes) below inside off found even =
    let all : List Bool = shown_by roots cells in
    let shape = copied-is z gate source is in
    let below_is : AreBelow (length roots) (source ∷ z ∷ z ∷ z ∷ []) = subst (AreBelow (length roots)) shape.1 below in
    shown-cell roots cells gate.slot inside ∙ ap (cell_at cells) takes ∙ sym (shown-cell roots cells source below_is.0)
    ∙ sym (copy-value (cell_at all source))
    ∙ ap (λ b. bit_of 2 (number_of (cell_at all source ∷ b ∷ b ∷ b ∷ []))) (sym off)
    ∙ ap₂ (λ table ins. bit_of table (number_of (map (cell_at all) ins))) (sym shape.0) (sym shape.1)

-- ---- the values are those that the wires of the text get, one after the other

same-ins : (count slot : ℕ) (some other : List Bool) (ins : List ℕ) → AreBefore count slot ins → ((cell : ℕ) → (cell < count → cell < slot) → cell_at some cell ≡ cell_at other cell)
    → map (cell_at some) ins ≡ map (cell_at other) ins
same-ins count slot some other [] before same = refl
same-ins count slot some other (cell ∷ ins) before same = ap₂ (λ b rest. b ∷ rest) (same cell before.0) (same-ins count slot some other ins before.1 same)

-- bits that are the same before a name, with the same words after
same-cells : (count from : ℕ) (some other : List Bool) (words : List ℕ) → length some ≡ count → length other ≡ count → ((cell : ℕ) → cell < from → cell_at some cell ≡ cell_at other cell) → from ≤ count
    → (cell : ℕ) → (cell < count → cell < from) → cell_at (cells_of some words) cell ≡ cell_at (cells_of other words) cell
same-cells count from some other words size_some size_other same bound cell source =
    elim (cases_lt cell count) [
      | inl name ↦
          get_or_append_left some (tail_of words) false cell (omega (arith, name, size_some)) ∙ same cell (source name)
          ∙ sym (get_or_append_left other (tail_of words) false cell (omega (arith, name, size_other)))
      | inr rest ↦
          let k : ℕ = cell - count in
          let at_some : cell ≡ length some + k = omega (arith, rest, size_some) in
          let at_other : cell ≡ length other + k = omega (arith, rest, size_other) in
          ap (cell_at (cells_of some words)) at_some ∙ get_or-append-add some (tail_of words) k false
          ∙ sym (ap (cell_at (cells_of other words)) at_other ∙ get_or-append-add other (tail_of words) k false)
    ]

pub settled-is : (from count total : ℕ) (words : List ℕ) (bits values : List Bool) (wires : List Wire) → AreNumbered from count total (map (gate_of count (length words)) wires)
    → length bits ≡ count → length values ≡ count → AreWords words → ((cell : ℕ) → cell < from → cell_at bits cell ≡ cell_at values cell)
    → ((place : ℕ) → place < length wires → IsEven (cells_of values words) (gate_at (map (gate_of count (length words)) wires) place))
    → fold (wire_slot words) bits wires ≡ values
settled-is from count total words bits values [] numbered size_bits size_values small same even =
    ext_get_or false bits values (size_bits ∙ sym size_values) (λ cell inside. same cell (omega (arith, inside, size_bits, numbered)))
settled-is from count total words bits values (wire ∷ wires) numbered size_bits size_values small same even =
    let gate : Gate = gate_of count (length words) wire in
    let slot_is : wire.slot ≡ from = numbered.0.0 in
    let name : from < count = numbered.0.1 in
    let before : AreBefore count from gate.ins = numbered.1.0.0 in
    let value : rule_value bits words wire.rule ≡ cell_at values wire.slot =
    sym (gate-same bits words wire small)
    ∙ ap (λ n. gate_value (cells_of bits words) (gate_of n (length words) wire)) size_bits
    ∙ ap (λ list. bit_of gate.table (number_of list)) (same-ins count from (cells_of bits words) (cells_of values words) gate.ins before (same-cells count from bits values words size_bits size_values same (omega (arith, name))))
    ∙ sym (even 0 (omega arith))
    ∙ get_or_append_left values (tail_of words) false wire.slot (omega (arith, slot_is, name, size_values)) in
    let next : List Bool = set bits wire.slot (rule_value bits words wire.rule) in
    settled-is (from + 1) count total words next values wires numbered.1.1
    (length-set bits wire.slot (rule_value bits words wire.rule) ∙ size_bits) size_values small
    (λ cell inside.
    elim (cases_eq cell wire.slot) [
      | inl here ↦
          ap (cell_at next) here ∙ get_or-set_same bits wire.slot (rule_value bits words wire.rule) false (omega (arith, slot_is, name, size_bits)) ∙ value ∙ ap (cell_at values) (sym here)
      | inr apart ↦
          get_or-set_other bits wire.slot cell (rule_value bits words wire.rule) false apart
          ∙ same cell (elim (cases_lt cell from) [
            | inl less ↦ less
            | inr past ↦ absurd (apart (omega (arith, inside, past, slot_is)))
          ])
    ])
    (λ place inside. even (suc place) (omega (arith, inside)))
