-- The roots of cells, after wires that only copy became aliases of what they copy.
use Rattle.std.proofs.Common.{◌≡◌, ℕ, zero, suc, ◌+◌, ◌<◌, ◌≤◌, Bool, true, false, cond, eqb, List, [], ◌∷◌, Option, Some, None, ap, ap₂, arith, fold, get_or, inl, inr, length, refl, set, subst, sym, ◌∙◌}
use Rattle.std.specs.Prelude.{◌&&◌}
use Rattle.std.proofs.lemmas.Bool.{cases_Bool, cases_eq, cases_lt, eqb-true}
use Rattle.std.proofs.lemmas.List.{get_or-set_other, get_or-set_same, get_or_append_left, get_or_at, get_or_past, length-set, length_push, set_past}
use Rattle.vlog_semantics.specs.declared.gates.Gate.{Gate}
use Rattle.vlog_semantics.specs.declared.plan.Settle.{Settle}
use Rattle.vlog_engine.specs.Marks.{AreBefore, gate_at}
use Rattle.vlog_engine.specs.Roots.{copied, first_roots, held_by, joined, root, root_step, source_of}

-- ---- the order of the wires of a text

abbrev pub AreBelow : ℕ → List ℕ → Type 0
AreBelow total [] = Unit {0}
AreBelow total (cell ∷ cells) = (cell < total) × AreBelow total cells

-- wires have the cells from one on, up to the number of names, and read only what comes before
abbrev pub AreNumbered : ℕ → ℕ → ℕ → List Gate → Type 0
AreNumbered from count total [] = from ≡ count
AreNumbered from count total (gate ∷ gates) =
    ((gate.slot ≡ from) × (from < count)) × ((AreBefore count from gate.ins × AreBelow total gate.ins) × AreNumbered (from + 1) count total gates)

pub numbered-end : (from count total : ℕ) (gates : List Gate) → AreNumbered from count total gates → from ≤ count
numbered-end from count total [] numbered = omega (arith, numbered)
numbered-end from count total (gate ∷ gates) numbered = omega (arith, numbered.0.1)

-- ---- copies

and-both : (a b : Bool) → (a && b) ≡ true → (a ≡ true) × (b ≡ true)
and-both true b is = (refl, is)
and-both false b is = absurd cc

source-chosen : (z a b c d source : ℕ) (t : Bool) → (eqb b z && eqb c z && eqb d z) ≡ t → cond t (Some a) None ≡ Some source
    → a ∷ b ∷ c ∷ d ∷ [] ≡ source ∷ z ∷ z ∷ z ∷ []
source-chosen z a b c d source true on is =
    let first = and-both (eqb b z && eqb c z) (eqb d z) on in
    let second = and-both (eqb b z) (eqb c z) first.0 in
    let same : a ≡ source = cc in
    let sb : b ≡ z = eqb-true b z second.0 in
    let sc : c ≡ z = eqb-true c z second.1 in
    let sd : d ≡ z = eqb-true d z first.1 in
    ap₂ (λ x y. x ∷ y ∷ c ∷ d ∷ []) same sb ∙ ap₂ (λ x y. source ∷ z ∷ x ∷ y ∷ []) sc sd
source-chosen z a b c d source false on is = absurd cc

source-is : (z : ℕ) (ins : List ℕ) (source : ℕ) → source_of z ins ≡ Some source → ins ≡ source ∷ z ∷ z ∷ z ∷ []
source-is z [] source is = absurd cc
source-is z (a ∷ []) source is = absurd cc
source-is z (a ∷ b ∷ []) source is = absurd cc
source-is z (a ∷ b ∷ c ∷ []) source is = absurd cc
source-is z (a ∷ b ∷ c ∷ d ∷ []) source is = source-chosen z a b c d source (eqb b z && eqb c z && eqb d z) refl is
source-is z (a ∷ b ∷ c ∷ d ∷ e ∷ rest) source is = absurd cc

copied-case : (z table : ℕ) (ins : List ℕ) (source : ℕ) (t : Bool) → eqb table 2 ≡ t → cond t (source_of z ins) None ≡ Some source
    → (table ≡ 2) × (ins ≡ source ∷ z ∷ z ∷ z ∷ [])
copied-case z table ins source true on is = (eqb-true table 2 on, source-is z ins source is)
copied-case z table ins source false on is = absurd cc

pub copied-is : (z : ℕ) (gate : Gate) (source : ℕ) → copied z gate ≡ Some source → (gate.table ≡ 2) × (gate.ins ≡ source ∷ z ∷ z ∷ z ∷ [])
copied-is z gate source is = copied-case z gate.table gate.ins source (eqb gate.table 2) refl is

source-order : (z from count total : ℕ) (gate : Gate) (source : ℕ) → copied z gate ≡ Some source → AreBefore count from gate.ins → AreBelow total gate.ins
    → (source < count → source < from) × (source < total)
source-order z from count total gate source is before below =
    let ins = (copied-is z gate source is).1 in
    let before_is : AreBefore count from (source ∷ z ∷ z ∷ z ∷ []) = subst (AreBefore count from) ins before in
    let below_is : AreBelow total (source ∷ z ∷ z ∷ z ∷ []) = subst (AreBelow total) ins below in
    (before_is.0, below_is.0)

-- ---- one wire

step-other-case : (held : List Bool) (roots : List ℕ) (slot cell : ℕ) (found : Option ℕ) → (cell ≡ slot → ⊥) → root (joined held roots slot found) cell ≡ root roots cell
step-other-case held roots slot cell (Some source) apart =
    elim (get_or held (root roots source) false) as (λ b. root (cond b roots (set roots slot (root roots source))) cell ≡ root roots cell) [
      | true ↦ refl
      | false ↦ get_or-set_other roots slot cell (root roots source) 0 apart
    ]
step-other-case held roots slot cell None apart = refl

step-other : (z : ℕ) (held : List Bool) (roots : List ℕ) (gate : Gate) (cell : ℕ) → (cell ≡ gate.slot → ⊥) → root (root_step z held roots gate) cell ≡ root roots cell
step-other z held roots gate cell apart = step-other-case held roots gate.slot cell (copied z gate) apart

-- the root of a wire's cell is its own as before, or the root of a cell that isn't held and that the wire copies
data Joins (z : ℕ) (held : List Bool) (roots after : List ℕ) (gate : Gate) : Type 0 where
  stays : (same : root after gate.slot ≡ root roots gate.slot) → Joins z held roots after gate
  joins : (source : ℕ) (is : copied z gate ≡ Some source) (free : get_or held (root roots source) false ≡ false) (takes : root after gate.slot ≡ root roots source) → Joins z held roots after gate

step-own-case : (z : ℕ) (held : List Bool) (roots : List ℕ) (gate : Gate) (found : Option ℕ) → gate.slot < length roots → copied z gate ≡ found
    → Joins z held roots (joined held roots gate.slot found) gate
step-own-case z held roots gate (Some source) within is =
    elim (cases_Bool (get_or held (root roots source) false)) [
      | inl on ↦ stays (ap (λ b. root (cond b roots (set roots gate.slot (root roots source))) gate.slot) on)
      | inr off ↦ joins source is off
          (ap (λ b. root (cond b roots (set roots gate.slot (root roots source))) gate.slot) off ∙ get_or-set_same roots gate.slot (root roots source) 0 within)
    ]
step-own-case z held roots gate None within is = stays refl

step-own : (z : ℕ) (held : List Bool) (roots : List ℕ) (gate : Gate) → gate.slot < length roots → Joins z held roots (root_step z held roots gate) gate
step-own z held roots gate within = step-own-case z held roots gate (copied z gate) within refl

length-step-case : (held : List Bool) (roots : List ℕ) (slot : ℕ) (found : Option ℕ) → length (joined held roots slot found) ≡ length roots
length-step-case held roots slot (Some source) =
    elim (get_or held (root roots source) false) as (λ b. length (cond b roots (set roots slot (root roots source))) ≡ length roots) [
      | true ↦ refl
      | false ↦ length-set roots slot (root roots source)
    ]
length-step-case held roots slot None = refl

length-step : (z : ℕ) (held : List Bool) (roots : List ℕ) (gate : Gate) → length (root_step z held roots gate) ≡ length roots
length-step z held roots gate = length-step-case held roots gate.slot (copied z gate)

pub length-steps : (z : ℕ) (held : List Bool) (roots : List ℕ) (gates : List Gate) → length (fold (root_step z held) roots gates) ≡ length roots
length-steps z held roots [] = refl
length-steps z held roots (gate ∷ gates) = length-steps z held (root_step z held roots gate) gates ∙ length-step z held roots gate

-- ---- all wires

-- a cell that is no wire's stays
pub steps-other : (z : ℕ) (held : List Bool) (from count total : ℕ) (roots : List ℕ) (gates : List Gate) (cell : ℕ) → AreNumbered from count total gates → (cell < count → cell < from)
    → root (fold (root_step z held) roots gates) cell ≡ root roots cell
steps-other z held from count total roots [] cell numbered apart = refl
steps-other z held from count total roots (gate ∷ gates) cell numbered apart =
    steps-other z held (from + 1) count total (root_step z held roots gate) gates cell numbered.1.1 (λ below. omega (arith, apart below))
    ∙ step-other z held roots gate cell (λ same. let less : cell < from = apart (omega (arith, same, numbered.0.0, numbered.0.1)) in omega (arith, less, same, numbered.0.0))

-- what is known of the cells before the wires from one on
record AreJoined (held : List Bool) (from count total : ℕ) (roots : List ℕ) : Type 0 where
  size : length roots ≡ total
  names : count ≤ total
  own : (cell : ℕ) → from ≤ cell → cell < total → root roots cell ≡ cell
  low : (cell : ℕ) → root roots cell < count → root roots cell ≤ cell
  below : (cell : ℕ) → root roots cell < total
  apart : (cell : ℕ) → cell < total → get_or held (root roots cell) false ≡ true → root roots cell ≡ cell

joined-step : (z : ℕ) (held : List Bool) (from count total : ℕ) (roots : List ℕ) (gate : Gate) (gates : List Gate) → AreNumbered from count total (gate ∷ gates)
    → AreJoined held from count total roots → AreJoined held (from + 1) count total (root_step z held roots gate)
joined-step z held from count total roots gate gates numbered known =
    let after : List ℕ = root_step z held roots gate in
    let slot_is : gate.slot ≡ from = numbered.0.0 in
    let within : gate.slot < length roots = omega (arith, slot_is, numbered.0.1, known.size, known.names) in
    let own_from : root roots gate.slot ≡ gate.slot = known.own gate.slot (omega (arith, slot_is)) (omega (arith, within, known.size)) in
    let own : Joins z held roots after gate = step-own z held roots gate within in
    let other : (cell : ℕ) → (cell ≡ gate.slot → ⊥) → root after cell ≡ root roots cell = step-other z held roots gate in
    record {
      size = length-step z held roots gate ∙ known.size;
      names = known.names;
      own = λ cell above inside. other cell (λ same. omega (arith, above, same, slot_is)) ∙ known.own cell (omega (arith, above)) inside;
      low = λ cell.
          elim (cases_eq cell gate.slot) [
            | inr apart ↦ subst (λ r. r < count → r ≤ cell) (sym (other cell apart)) (known.low cell)
            | inl same ↦ subst (λ k. root after k < count → root after k ≤ k) (sym same)
                (elim own [
                  | stays is ↦ subst (λ r. r < count → r ≤ gate.slot) (sym (is ∙ own_from)) (λ less. omega arith)
                  | joins source is free takes ↦
                      let order = source-order z from count total gate source is numbered.1.0.0 numbered.1.0.1 in
                      subst (λ r. r < count → r ≤ gate.slot) (sym takes) (λ less.
                      elim (cases_lt source count) [
                        | inl name ↦ omega (arith, known.low source less, order.0 name, slot_is)
                        | inr rest ↦
                            let itself : root roots source ≡ source = known.own source (omega (arith, rest, numbered.0.1)) order.1 in
                            absurd (omega (arith, itself, less, rest))
                      ])
                ])
          ];
      below = λ cell.
          elim (cases_eq cell gate.slot) [
            | inr apart ↦ subst (λ r. r < total) (sym (other cell apart)) (known.below cell)
            | inl same ↦ subst (λ k. root after k < total) (sym same)
                (elim own [
                  | stays is ↦ subst (λ r. r < total) (sym is) (known.below gate.slot)
                  | joins source is free takes ↦ subst (λ r. r < total) (sym takes) (known.below source)
                ])
          ];
      apart = λ cell inside.
          elim (cases_eq cell gate.slot) [
            | inr apart ↦ subst (λ r. get_or held r false ≡ true → r ≡ cell) (sym (other cell apart)) (known.apart cell inside)
            | inl same ↦ subst (λ k. get_or held (root after k) false ≡ true → root after k ≡ k) (sym same)
                (elim own [
                  | stays is ↦ λ on. is ∙ own_from
                  | joins source is free takes ↦ λ on.
                      let off : get_or held (root after gate.slot) false ≡ false = ap (λ r. get_or held r false) takes ∙ free in absurd cc
                ])
          ];
    }

-- a wire has its own cell, or that of what it copies
pub data Follows (z : ℕ) (roots : List ℕ) (gate : Gate) : Type 0 where
  keeps : (same : root roots gate.slot ≡ gate.slot) → Follows z roots gate
  copies : (source : ℕ) (is : copied z gate ≡ Some source) (takes : root roots gate.slot ≡ root roots source) → Follows z roots gate

-- what is known of the cells once all wires are joined
pub record AreRoots (z : ℕ) (held : List Bool) (first count total : ℕ) (gates : List Gate) (roots : List ℕ) : Type 0 where
  pub size : length roots ≡ total
  pub low : (cell : ℕ) → root roots cell < count → root roots cell ≤ cell
  pub below : (cell : ℕ) → root roots cell < total
  pub apart : (cell : ℕ) → cell < total → get_or held (root roots cell) false ≡ true → root roots cell ≡ cell
  pub follows : (place : ℕ) → place < length gates → Follows z roots (gate_at gates place)

joined-all : (z : ℕ) (held : List Bool) (from count total : ℕ) (roots : List ℕ) (gates : List Gate) → AreNumbered from count total gates → AreJoined held from count total roots
    → AreRoots z held from count total gates (fold (root_step z held) roots gates)
joined-all z held from count total roots [] numbered known = record {
  size = known.size;
  low = known.low;
  below = known.below;
  apart = known.apart;
  follows = λ place within. absurd (omega arith);
}
joined-all z held from count total roots (gate ∷ gates) numbered known =
    let after : List ℕ = root_step z held roots gate in
    let last : List ℕ = fold (root_step z held) after gates in
    let rest : AreRoots z held (from + 1) count total gates last = joined-all z held (from + 1) count total after gates numbered.1.1 (joined-step z held from count total roots gate gates numbered known) in
    let slot_is : gate.slot ≡ from = numbered.0.0 in
    let within : gate.slot < length roots = omega (arith, slot_is, numbered.0.1, known.size, known.names) in
    let later : (cell : ℕ) → (cell < count → cell < from + 1) → root last cell ≡ root after cell = λ cell early. steps-other z held (from + 1) count total after gates cell numbered.1.1 early in
    record {
      size = rest.size;
      low = rest.low;
      below = rest.below;
      apart = rest.apart;
      follows = elim [
        | zero ↦ λ inside.
            elim (step-own z held roots gate within) [
              | stays is ↦ keeps (later gate.slot (λ name. omega (arith, slot_is)) ∙ is ∙ known.own gate.slot (omega (arith, slot_is)) (omega (arith, within, known.size)))
              | joins source is free takes ↦
                  let order = source-order z from count total gate source is numbered.1.0.0 numbered.1.0.1 in
                  copies source is (later gate.slot (λ name. omega (arith, slot_is)) ∙ takes
                  ∙ sym (later source (λ name. omega (arith, order.0 name))
                  ∙ step-other z held roots gate source (λ same. let less : source < from = order.0 (omega (arith, same, slot_is, numbered.0.1)) in omega (arith, less, same, slot_is))))
            ]
        | suc place ↦ λ inside. rest.follows place (omega (arith, inside))
      ];
    }

-- ---- the start

pub length-first : (count : ℕ) → length (first_roots count) ≡ count
length-first zero = refl
length-first (suc cell) = omega (arith, length_push (first_roots cell) cell, length-first cell)

pub first-own : (count cell : ℕ) → cell < count → root (first_roots count) cell ≡ cell
first-own zero cell within = absurd (omega arith)
first-own (suc last) cell within =
    elim (cases_lt cell last) [
      | inl before ↦ get_or_append_left (first_roots last) (last ∷ []) 0 cell (omega (arith, before, length-first last)) ∙ first-own last cell before
      | inr after ↦
          let same : last ≡ cell = omega (arith, within, after) in
          get_or_at (first_roots last) last [] 0 cell (length-first last ∙ same) ∙ same
    ]

first-low : (count cell : ℕ) → root (first_roots count) cell ≤ cell
first-low count cell =
    elim (cases_lt cell count) [
      | inl inside ↦ omega (arith, first-own count cell inside)
      | inr past ↦ omega (arith, get_or_past (first_roots count) cell 0 (omega (arith, past, length-first count)))
    ]

first-below : (count cell : ℕ) → 0 < count → root (first_roots count) cell < count
first-below count cell some =
    elim (cases_lt cell count) [
      | inl inside ↦ omega (arith, first-own count cell inside, inside)
      | inr past ↦ omega (arith, some, get_or_past (first_roots count) cell 0 (omega (arith, past, length-first count)))
    ]

pub roots-known : (z : ℕ) (held : List Bool) (first count total : ℕ) (gates : List Gate) → AreNumbered first count total gates → count < total
    → AreRoots z held first count total gates (fold (root_step z held) (first_roots total) gates)
roots-known z held first count total gates numbered names =
    joined-all z held first count total (first_roots total) gates numbered (record {
      size = length-first total;
      names = omega (arith, names);
      own = λ cell above inside. first-own total cell inside;
      low = λ cell less. first-low total cell;
      below = λ cell. first-below total cell (omega (arith, names));
      apart = λ cell inside on. first-own total cell inside;
    })

-- cells that no wire has are their own roots
pub roots-own : (z : ℕ) (held : List Bool) (first count total : ℕ) (gates : List Gate) (cell : ℕ) → AreNumbered first count total gates → (cell < count → cell < first) → cell < total
    → root (fold (root_step z held) (first_roots total) gates) cell ≡ cell
roots-own z held first count total gates cell numbered source inside =
    steps-other z held first count total (first_roots total) gates cell numbered source ∙ first-own total cell inside

-- ---- registers with an asynchronous set or reset

held-kept : (settles : List Settle) (held : List Bool) (cell : ℕ) → get_or held cell false ≡ true → get_or (held_by held settles) cell false ≡ true
held-kept [] held cell is = is
held-kept (settle ∷ settles) held cell is =
    held-kept settles (set held settle.target true) cell
    (elim (cases_eq cell settle.target) [
      | inl same ↦
          let within : settle.target < length held = elim (cases_lt cell (length held)) [
            | inl inside ↦ omega (arith, same, inside)
            | inr past ↦ let off : get_or held cell false ≡ false = get_or_past held cell false past in absurd cc
          ] in
          ap (λ k. get_or (set held settle.target true) k false) same ∙ get_or-set_same held settle.target true false within
      | inr apart ↦ get_or-set_other held settle.target cell true false apart ∙ is
    ])

pub held-targets : (settles : List Settle) (held : List Bool) (place : ℕ) (none : Settle) → place < length settles → (get_or settles place none).target < length held
    → get_or (held_by held settles) (get_or settles place none).target false ≡ true
held-targets [] held place none inside within = absurd (omega arith)
held-targets (settle ∷ settles) held zero none inside within =
    held-kept settles (set held settle.target true) settle.target (get_or-set_same held settle.target true false within)
held-targets (settle ∷ settles) held (suc place) none inside within =
    held-targets settles (set held settle.target true) place none (omega (arith, inside)) (omega (arith, within, length-set held settle.target true))

-- ---- roots are in range, whatever the wires

set-below : (roots : List ℕ) (cell value other total : ℕ) → ((k : ℕ) → root roots k < total) → value < total → root (set roots cell value) other < total
set-below roots cell value other total below less =
    elim (cases_eq other cell) [
      | inr apart ↦ subst (λ r. r < total) (sym (get_or-set_other roots cell other value 0 apart)) (below other)
      | inl same ↦
          (elim (cases_lt cell (length roots)) [
            | inl inside ↦ subst (λ r. r < total) (sym (ap (root (set roots cell value)) same ∙ get_or-set_same roots cell value 0 inside)) less
            | inr past ↦ subst (λ list. root list other < total) (sym (set_past roots cell value past)) (below other)
          ])
    ]

step-below : (z : ℕ) (held : List Bool) (roots : List ℕ) (slot total : ℕ) (found : Option ℕ) → ((k : ℕ) → root roots k < total) → (k : ℕ) → root (joined held roots slot found) k < total
step-below z held roots slot total (Some source) below k =
    elim (get_or held (root roots source) false) as (λ b. root (cond b roots (set roots slot (root roots source))) k < total) [
      | true ↦ below k
      | false ↦ set-below roots slot (root roots source) k total below (below source)
    ]
step-below z held roots slot total None below k = below k

steps-below : (z : ℕ) (held : List Bool) (roots : List ℕ) (total : ℕ) (gates : List Gate) → ((k : ℕ) → root roots k < total) → (k : ℕ) → root (fold (root_step z held) roots gates) k < total
steps-below z held roots total [] below k = below k
steps-below z held roots total (gate ∷ gates) below k =
    steps-below z held (root_step z held roots gate) total gates (step-below z held roots gate.slot total (copied z gate) below) k

pub roots-below : (z : ℕ) (held : List Bool) (total : ℕ) (gates : List Gate) → 0 < total → (k : ℕ) → root (fold (root_step z held) (first_roots total) gates) k < total
roots-below z held total gates some = steps-below z held (first_roots total) total gates (λ k. first-below total k some)
