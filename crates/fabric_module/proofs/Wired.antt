-- The wires of a written module may stand after its state, in the order of their classes.
use Rattle.std.proofs.Common.{◌≡◌, ℕ, ◌^◌, ◌<◌, ◌≤◌, Bool, true, false, List, [], ◌∷◌, ◌++◌, map, fold, refl, sym, ap, ◌∙◌, subst, arith, inl, inr, append_assoc, append-nil}
use Rattle.std.specs.Prelude.{All, flat_map, bytes_eq, ◌==◌}
use Rattle.std.proofs.lemmas.Bool.{cases_Bool, eqb-true}
use Rattle.std.proofs.lemmas.List.{map-append}
use Rattle.std.proofs.lemmas.Grind.{flat_map-append}
use Rattle.std.proofs.lemmas.List.Elements.{All-cons, All-append}
use Rattle.shared_lemmas.proofs.Bytes.{bytes_eq-same}
use Rattle.vlog_module.specs.Maps.{value_in}
use Rattle.vlog_module.specs.declared.sort.Sort.{Sort}
use Rattle.vlog_module.specs.declared.sort.Sort.TheVariants as sort
use Rattle.vlog_module.specs.declared.atoms.Atom.{Atom}
use Rattle.vlog_module.specs.declared.atoms.Atom.TheVariants.{Bit, Whole, Part}
use Rattle.vlog_module.specs.declared.item.Right.{Right}
use Rattle.vlog_module.specs.declared.item.Right.TheVariants.{Bit as RightBit, Whole as RightWhole, Part as RightPart, Lut as RightLut, Majority, Choose}
use Rattle.vlog_module.specs.Uses.{Use, atom_uses, atoms_uses, right_uses}
use Rattle.vlog_module.specs.Uses.Use.{Declares, Reads, ReadsBit, Takes, Chooses}
use Rattle.vlog_module.specs.WellFormed.{declared_by, assigned_by, started_by, Scope, IsRight, IsAllowed}
use Rattle.vlog_semantics.specs.Named.{names_of}
use Rattle.fabric_model.specs.Fabric.{Fabric}
use Rattle.fabric_model.specs.Joins.{class_of}
use Rattle.fabric_model.specs.Drivers.{is_driven}
use Rattle.graph_order.specs.Wiring.{has, IsReady}
use Rattle.fabric_model.specs.Wiring.{wiring_of, clocked_wiring}
use Rattle.graph_order.proofs.OneOrder.{has-first, has-cases, has-other, Continues}
use Rattle.graph_order.proofs.OneOrder.Continues.{whole, next}
use Rattle.fabric_model.proofs.Clocking.{clocked-ready}
use Rattle.fabric_model.proofs.OneValue.{IsWithin, first-driver, first-is, first-reads, driven-is, driven-below}
use Rattle.fabric_model.proofs.Within.{All-single}
use Rattle.fabric_module.specs.Names.{wire_name}
use Rattle.fabric_module.specs.Rights.{right_by, class_right}
use Rattle.fabric_module.specs.Written.{class_wire}
use Rattle.fabric_module.proofs.Lists.{value_in-none, value_in-after}
use Rattle.fabric_module.proofs.Settled.{IsWritable, wire-one}
use Rattle.fabric_module.proofs.Named.{wire-named}
use Rattle.fabric_module.proofs.Grown.{grown, grown-section, grown-declared, grown-assigned, grown-started, Grows}
use Rattle.fabric_module.proofs.Declared.{Declared}
use Rattle.fabric_module.proofs.Used.{IsFine, fine-allowed, IsThere, Knows, there-more, knows-allows, right-fine}

-- ---- reading declares and assigns nothing

module _ {A : Type 0} (each : Use → List A) (of_whole : (name : List ℕ) → each (Reads name) ≡ []) (of_bit : (name : List ℕ) (k : ℕ) → each (ReadsBit name k) ≡ []) where
  pub atom-none : (atom : Atom) → flat_map each (atom_uses atom) ≡ []
  atom-none (Bit bit) = refl
  atom-none (Whole name) = rw (of_whole name) refl
  atom-none (Part name k) = rw (of_bit name k) refl

  pub atoms-none : (atoms : List Atom) → flat_map each (atoms_uses atoms) ≡ []
  atoms-none [] = refl
  atoms-none (atom ∷ atoms) = flat_map-append each (atoms_uses atoms) (atom_uses atom) ∙ (rw (atoms-none atoms, atom-none atom) refl)

  pub right-none : ((as_sort : Sort) (name : List ℕ) → each (Takes as_sort name) ≡ []) → ((reset : List ℕ) (set : Bool) (name : List ℕ) → each (Chooses reset set name) ≡ [])
      → (right : Right) → flat_map each (right_uses right) ≡ []
  right-none of_takes of_chooses (RightBit bit) = refl
  right-none of_takes of_chooses (RightWhole name) = rw (of_whole name) refl
  right-none of_takes of_chooses (RightPart name k) = rw (of_bit name k) refl
  right-none of_takes of_chooses (RightLut lut) = atoms-none lut.ins
  right-none of_takes of_chooses (Majority a b c) =
      flat_map-append each (atom_uses a ++ atom_uses b) (atom_uses c)
      ∙ (ap (λ list. list ++ flat_map each (atom_uses c)) (flat_map-append each (atom_uses a) (atom_uses b)) ∙ (rw (atom-none a, atom-none b, atom-none c) refl))
  right-none of_takes of_chooses (Choose reset set target) = rw (of_takes sort.Wire reset, of_chooses reset set target) refl

-- ---- wires

module _ (fabric : Fabric) (within : IsWithin fabric) (writable : IsWritable fabric) (shaped : (class : ℕ) → IsRight (class_right fabric class)) where
  -- no name is that of the wire
  abbrev Absent : Scope → ℕ → Type 0
  Absent scope class = All (λ n. bytes_eq n (wire_name class) ≡ false) (names_of scope.declared)

  small : (class : ℕ) → is_driven fabric class ≡ true → class < 2 ^ 64
  small class driven = omega (arith, driven-below fabric within class driven, writable.few)

  module _ (before : List ℕ) (class : ℕ) (ready : IsReady (wiring_of fabric) (has before) class) (scope : Scope) (low : scope.section ≤ 5) (knows : Knows fabric scope (has before)) (absent : Absent scope class) where
    driven : is_driven fabric class ≡ true
    driven = sym (driven-is fabric class) ∙ ready.driven

    right-is-fine : All (IsFine scope) (right_uses (class_right fabric class))
    unfolding class_right
    right-is-fine =
        let found = first-driver fabric class driven in
        let drivers = first-is fabric class found.0 found.1 found.2 in
        subst (λ list. All (IsFine scope) (right_uses (right_by fabric list))) (sym drivers)
        (right-fine fabric (has before) (IsFine scope) (knows-allows fabric scope (has before) knows) found.0.rule (writable.places found.0 found.2.there) (λ n reads connected.
        ready.inputs (class_of fabric.joins n) (first-reads fabric class found.0 found.1 drivers n reads) (driven-is fabric (class_of fabric.joins n) ∙ connected)))

    wire-allowed : IsAllowed scope (class_wire fabric class)
    wire-allowed =
        fine-allowed scope (class_wire fabric class) (shaped class) low
        (All-cons (IsFine scope) (Declares sort.Wire (wire_name class)) (right_uses (class_right fabric class))
        (record { named = wire-named class (small class driven); in_range = tt; known = refl; first = rw (value_in-none scope.declared (wire_name class) absent) refl })
        right-is-fine)

    wire-declared : Declared scope (grown scope (class_wire fabric class)) 5 ((wire_name class, sort.Wire) ∷ [])
    wire-declared = record {
      section = omega (arith, grown-section scope (class_wire fabric class));
      declared_is = grown-declared scope (class_wire fabric class)
          ∙ (rw (right-none declared_by (λ name. refl) (λ name k. refl) (λ as_sort name. refl) (λ reset set name. refl) (class_right fabric class)) refl);
      assigned_is = grown-assigned scope (class_wire fabric class)
          ∙ (rw (right-none assigned_by (λ name. refl) (λ name k. refl) (λ as_sort name. refl) (λ reset set name. refl) (class_right fabric class)) (append-nil scope.assigned));
      started_is = grown-started scope (class_wire fabric class)
          ∙ (rw (right-none started_by (λ name. refl) (λ name k. refl) (λ as_sort name. refl) (λ reset set name. refl) (class_right fabric class)) (append-nil scope.started));
    }

    wire-there : IsThere (grown scope (class_wire fabric class)) (wire_name class) sort.Wire
    wire-there = record {
      named = wire-named class (small class driven);
      declared = ap (λ list. value_in list (wire_name class)) wire-declared.declared_is
          ∙ (value_in-after scope.declared ((wire_name class, sort.Wire) ∷ []) (wire_name class) absent ∙ (rw (bytes_eq-same (wire_name class) (wire_name class) refl) refl));
    }

    knows-more : Knows fabric (grown scope (class_wire fabric class)) (has (class ∷ before))
    knows-more = record {
      input = λ place there. there-more scope (grown scope (class_wire fabric class)) ((wire_name class, sort.Wire) ∷ []) _ sort.Input wire-declared.declared_is (knows.input place there);
      register = λ register there. there-more scope (grown scope (class_wire fabric class)) ((wire_name class, sort.Wire) ∷ []) _ sort.Register wire-declared.declared_is (knows.register register there);
      read = λ place there. there-more scope (grown scope (class_wire fabric class)) ((wire_name class, sort.Wire) ∷ []) _ sort.Word wire-declared.declared_is (knows.read place there);
      wire = λ other listed. elim (has-cases class before other listed) [
        | inl here ↦ subst (λ c. IsThere (grown scope (class_wire fabric class)) (wire_name c) sort.Wire) here wire-there
        | inr following ↦ there-more scope (grown scope (class_wire fabric class)) ((wire_name class, sort.Wire) ∷ []) (wire_name other) sort.Wire wire-declared.declared_is (knows.wire other following)
      ];
    }

    absent-more : (other : ℕ) → is_driven fabric other ≡ true → has (class ∷ before) other ≡ false → Absent scope other → Absent (grown scope (class_wire fabric class)) other
    absent-more other drives fresh old =
        let names : names_of (grown scope (class_wire fabric class)).declared ≡ names_of scope.declared ++ wire_name class ∷ [] =
        ap names_of wire-declared.declared_is ∙ map-append (λ (entry : List ℕ × Sort). entry.0) scope.declared ((wire_name class, sort.Wire) ∷ []) in
        let away : bytes_eq (wire_name class) (wire_name other) ≡ false =
        elim (cases_Bool (bytes_eq (wire_name class) (wire_name other))) [
          | inl same ↦
              let e : class ≡ other = wire-one class other (small class driven) (small other drives) same in
              let never : true ≡ false = sym (subst (λ c. has (class ∷ before) c ≡ true) e (has-first class before)) ∙ fresh in absurd cc
          | inr other_name ↦ other_name
        ] in
        subst (All (λ n. bytes_eq n (wire_name other) ≡ false)) (sym names)
        (All-append (λ n. bytes_eq n (wire_name other) ≡ false) (names_of scope.declared) (wire_name class ∷ []) old (All-single (λ n. bytes_eq n (wire_name other) ≡ false) (wire_name class) away))

  fresh-after : (class : ℕ) (before : List ℕ) (other : ℕ) → has (class ∷ before) other ≡ false → has before other ≡ false
  fresh-after class before other fresh =
      elim (cases_Bool (class == other)) [
        | inl here ↦
            let e : class ≡ other = eqb-true class other here in
            let never : true ≡ false = sym (subst (λ c. has (class ∷ before) c ≡ true) e (has-first class before)) ∙ fresh in absurd cc
        | inr away ↦ sym (has-other class before other away) ∙ fresh
      ]

  -- all wires, in their order
  pub wires-grow : {before order : List ℕ} → Continues (clocked_wiring fabric) before order → (scope : Scope) → scope.section ≤ 5 → Knows fabric scope (has before)
      → ((class : ℕ) → is_driven fabric class ≡ true → has before class ≡ false → Absent scope class)
      → Grows scope (map (class_wire fabric) order) × Declared scope (fold grown scope (map (class_wire fabric) order)) 5 (map (λ c. (wire_name c, sort.Wire)) order)
  wires-grow (whole all) scope low knows absent = (tt, record { section = low; declared_is = sym (append-nil scope.declared); assigned_is = refl; started_is = refl })
  wires-grow {before} (next {node = class} {rest} least more) scope low knows absent =
      let ready = clocked-ready fabric (has before) class least.ready in
      let of_class : is_driven fabric class ≡ true = sym (driven-is fabric class) ∙ ready.driven in
      let away = absent class of_class ready.unlisted in
      let first = wire-declared before class ready scope low knows away in
      let following = wires-grow more (grown scope (class_wire fabric class)) first.section (knows-more before class ready scope low knows away) (λ other drives fresh.
      absent-more before class ready scope low knows away other drives fresh (absent other drives (fresh-after class before other fresh))) in (
        (wire-allowed before class ready scope low knows away, following.0),
        record {
          section = following.1.section;
          declared_is = following.1.declared_is ∙ (ap (λ list. list ++ map (λ c. (wire_name c, sort.Wire)) rest) first.declared_is ∙ append_assoc scope.declared ((wire_name class, sort.Wire) ∷ []) (map (λ c. (wire_name c, sort.Wire)) rest));
          assigned_is = following.1.assigned_is ∙ first.assigned_is;
          started_is = following.1.started_is ∙ first.started_is;
        },
      )
