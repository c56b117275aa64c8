-- Modules that grow item by item: what each item leaves for those after it.
use Rattle.std.proofs.Common.{◌≡◌, ℕ, zero, suc, List, [], ◌∷◌, ◌++◌, map, take, fold, refl, sym, ap, ◌∙◌, subst, append_assoc, append-nil}
use Rattle.std.proofs.lemmas.List.Elements.{All-append, All-head, All-tail}
use Rattle.shared_lemmas.proofs.Lists.{flat_map-push}
use Rattle.std.specs.Prelude.{All, Some, slice_get, flat_map, bytes_eq}
use Rattle.std.specs.List.{IsDistinct}
use Rattle.std.proofs.lemmas.List.Sums.{fold-append}
use Rattle.std.proofs.lemmas.Grind.{flat_map-append}
use Rattle.vlog_module.specs.declared.item.Item.{Item}
use Rattle.vlog_module.specs.declared.modules.Port.{Port}
use Rattle.vlog_module.specs.Names.{IsName}
use Rattle.vlog_module.specs.Uses.{Use, uses_of}
use Rattle.vlog_module.specs.WellFormed.{section_of, port_sort, declared_by, Reading, wire_readings, assigned_by, started_by, Scope, scope_of, IsAllowed, IsBegun}

-- what an item adds to what stands before it
pub grown : Scope → Item → Scope
grown scope item = record {
  section = section_of item;
  declared = scope.declared ++ flat_map declared_by (uses_of item);
  read = scope.read ++ wire_readings item;
  assigned = scope.assigned ++ flat_map assigned_by (uses_of item);
  started = scope.started ++ flat_map started_by (uses_of item);
}

pub grown-section : (scope : Scope) (item : Item) → (grown scope item).section ≡ section_of item
unfolding grown
grown-section scope item = refl

pub grown-declared : (scope : Scope) (item : Item) → (grown scope item).declared ≡ scope.declared ++ flat_map declared_by (uses_of item)
unfolding grown
grown-declared scope item = refl

pub grown-read : (scope : Scope) (item : Item) → (grown scope item).read ≡ scope.read ++ wire_readings item
unfolding grown
grown-read scope item = refl

pub grown-assigned : (scope : Scope) (item : Item) → (grown scope item).assigned ≡ scope.assigned ++ flat_map assigned_by (uses_of item)
unfolding grown
grown-assigned scope item = refl

pub grown-started : (scope : Scope) (item : Item) → (grown scope item).started ≡ scope.started ++ flat_map started_by (uses_of item)
unfolding grown
grown-started scope item = refl

-- one more item's part of a list
part-more : {A : Type 0} (each : Use → List A) (items : List Item) (item : Item)
    → flat_map each (flat_map uses_of (items ++ item ∷ [])) ≡ flat_map each (flat_map uses_of items) ++ flat_map each (uses_of item)
part-more each items item =
    ap (flat_map each) (flat_map-append uses_of items (item ∷ []) ∙ ap (λ list. flat_map uses_of items ++ list) (append-nil (uses_of item)))
    ∙ flat_map-append each (flat_map uses_of items) (uses_of item)

scope-more : (ports : List Port) (items : List Item) (item : Item) → scope_of ports (items ++ item ∷ []) ≡ grown (scope_of ports items) item
unfolding grown
scope-more ports items item =
    let section : (scope_of ports (items ++ item ∷ [])).section ≡ section_of item = fold-append (λ (before : ℕ) (i : Item). section_of i) 1 items (item ∷ []) in
    let declared : (scope_of ports (items ++ item ∷ [])).declared ≡ (scope_of ports items).declared ++ flat_map declared_by (uses_of item) =
    ap (λ list. map (λ port. (port.name, port_sort port)) ports ++ list) (part-more declared_by items item)
    ∙ sym (append_assoc (map (λ port. (port.name, port_sort port)) ports) (flat_map declared_by (flat_map uses_of items)) (flat_map declared_by (uses_of item))) in
    let readings = flat_map-push wire_readings items item in
    let assigned = part-more assigned_by items item in
    let started = part-more started_by items item in
    λ i. record { section = section i; declared = declared i; read = readings i; assigned = assigned i; started = started i }

-- each item may come after those before it
abbrev pub Grows : Scope → List Item → Type 0
Grows scope [] = Unit {0}
Grows scope (item ∷ items) = IsAllowed scope item × Grows (grown scope item) items

pub Grows-append : (scope : Scope) (first second : List Item) → Grows scope first → Grows (fold grown scope first) second → Grows scope (first ++ second)
Grows-append scope [] second of_first of_second = of_second
Grows-append scope (item ∷ first) second of_first of_second = (of_first.0, Grows-append (grown scope item) first second of_first.1 of_second)

-- what wires read is what they read before, then what the items read that are wires
pub grown-reads : (scope : Scope) (items : List Item) → (fold grown scope items).read ≡ scope.read ++ flat_map wire_readings items
grown-reads scope [] = sym (append-nil scope.read)
grown-reads scope (item ∷ items) =
    grown-reads (grown scope item) items
    ∙ (ap (λ list. list ++ flat_map wire_readings items) (grown-read scope item) ∙ append_assoc scope.read (wire_readings item) (flat_map wire_readings items))

-- what holds of all that wires read holds where more items come of which it holds too
pub reads-grow : (P : List ℕ × Reading → Type 0) (scope : Scope) (items : List Item) → All P scope.read → All (λ item. All P (wire_readings item)) items → All P (fold grown scope items).read
reads-grow P scope [] before all = before
reads-grow P scope (item ∷ items) before all =
    reads-grow P (grown scope item) items
    (subst (All P) (sym (grown-read scope item)) (All-append P scope.read (wire_readings item) before (All-head (λ i. All P (wire_readings i)) item items all)))
    (All-tail (λ i. All P (wire_readings i)) item items all)

allowed-from : (ports : List Port) (before items : List Item) (i : ℕ) (item : Item) → Grows (scope_of ports before) items → slice_get items i ≡ Some item
    → IsAllowed (scope_of ports (before ++ take i items)) item
allowed-from ports before [] i item grows at = absurd cc
allowed-from ports before (head ∷ items) zero item grows at =
    let same : head ≡ item = cc in
    subst (λ list. IsAllowed (scope_of ports list) item) (sym (append-nil before)) (subst (IsAllowed (scope_of ports before)) same grows.0)
allowed-from ports before (head ∷ items) (suc i) item grows at =
    subst (λ list. IsAllowed (scope_of ports list) item) (append_assoc before (head ∷ []) (take i items))
    (allowed-from ports (before ++ head ∷ []) items i item (subst (λ scope. Grows scope items) (sym (scope-more ports before head)) grows.1) at)

-- a module whose items grow after its ports
pub grows-begun : (ports : List Port) (items : List Item) → All (λ port. IsName port.name) ports → IsDistinct bytes_eq (map (λ port. port.name) ports)
    → Grows (scope_of ports []) items → IsBegun ports items
grows-begun ports items named apart grows = record {
  named = named;
  apart = apart;
  allowed = λ i item at. allowed-from ports [] items i item grows at;
}
