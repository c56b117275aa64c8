-- Well-formed modules under other names.
use Rattle.std.proofs.Common.{◌≡◌, ℕ, ◌≤◌, false, flat_map, List, [], ◌∷◌, Option, Some, None, length, take, refl, sym, subst, ap, ◌∙◌}
use Rattle.std.specs.Prelude.{All, IsTrue, bytes_eq, map, slice_get}
use Rattle.std.specs.List.{AllByRecursion, IsDistinct}
use Rattle.std.specs.Option.{option_map}
use Rattle.std.proofs.lemmas.List.{length-map, take-map}
use Rattle.std.proofs.lemmas.List.Elements.{All-map, All-weaker}
use Rattle.std.proofs.lemmas.Map.Keys.{IsDistinct-head, IsDistinct-tail, IsDistinct-cons}
use Rattle.std.proofs.lemmas.Option.{slice_get-map}
use Rattle.vlog_module.specs.declared.atoms.Atom.{Atom}
use Rattle.vlog_module.specs.declared.item.Lut.{Lut}
use Rattle.vlog_module.specs.declared.item.Right.{Right}
use Rattle.vlog_module.specs.declared.item.Right.TheVariants.{Lut as RightLut}
use Rattle.vlog_module.specs.declared.item.Item.{Item}
use Rattle.vlog_module.specs.declared.item.Item.TheVariants.{Word, Wire, FlipFlop, AsyncFlipFlop, Read, ReadNarrow, Write, WriteNarrow, Start}
use Rattle.vlog_module.specs.declared.modules.Port.{Port}
use Rattle.vlog_module.specs.Names.{IsName}
use Rattle.vlog_module.specs.Parts.{Parts}
use Rattle.vlog_module.specs.Uses.{Use, uses_of, used_name}
use Rattle.vlog_module.specs.Uses.Use.{ReadsBit, Starts}
use Rattle.vlog_module.specs.WellFormed.{IsAllowed, IsBegun, IsComplete, IsInRange, IsLut, IsModule, IsRight, IsShaped, Scope, assigned_by, is_assigned, is_first, is_known, scope_of}
use Rattle.vlog_semantics.specs.Named.{has_name}
use Rattle.port_names.specs.Renamed.{renamed_atom, renamed_atoms, renamed_lut, renamed_right, renamed_item, renamed_port, renamed_parts}
use Rattle.port_names.proofs.Apart.{KeepsApart}
use Rattle.port_names.proofs.Uses.{renamed_use, renamed_scope, uses-renamed, section-renamed, assigned-renamed, scope-renamed, is-among, known-renamed, first-renamed}

-- names become names
pub record KeepsNames (to : List ℕ → List ℕ) : Type 0 where
  pub named : (name : List ℕ) → IsName name → IsName (to name)

-- ---- an item

same-length : (to : List ℕ → List ℕ) (atoms : List Atom) (n : ℕ) → length atoms ≡ n → length (renamed_atoms to atoms) ≡ n
same-length to atoms n is = length-map atoms (renamed_atom to) ∙ is

lut-shaped : (to : List ℕ → List ℕ) (lut : Lut) → IsLut lut → IsLut (renamed_lut to lut)
lut-shaped to lut shaped = (shaped.0, same-length to lut.ins 4 shaped.1)

right-shaped : (to : List ℕ → List ℕ) (right : Right) → IsRight right → IsRight (renamed_right to right)
right-shaped to (RightLut lut) shaped = lut-shaped to lut shaped
right-shaped to other shaped = tt

shaped-renamed : (to : List ℕ → List ℕ) (item : Item) → IsShaped item → IsShaped (renamed_item to item)
shaped-renamed to (Word name start) shaped = shaped
shaped-renamed to (Wire name right) shaped = right-shaped to right shaped
shaped-renamed to (FlipFlop falling clock enable reset set target lut) shaped = lut-shaped to lut shaped
shaped-renamed to (AsyncFlipFlop falling clock reset set target enable lut) shaped = lut-shaped to lut shaped
shaped-renamed to (Read falling clock clock_enable enable target memory address) shaped = same-length to address 8 shaped
shaped-renamed to (ReadNarrow falling clock clock_enable enable target memory address shift pattern) shaped =
    (same-length to address 8 shaped.0, same-length to shift 3 shaped.1, shaped.2)
shaped-renamed to (Write falling clock clock_enable enable memory address mask bits) shaped =
    (same-length to address 8 shaped.0, same-length to mask 16 shaped.1, same-length to bits 16 shaped.2)
shaped-renamed to (WriteNarrow falling clock clock_enable enable memory address pattern shift bits) shaped =
    (same-length to address 8 shaped.0, shaped.1, same-length to shift 3 shaped.2, same-length to bits 16 shaped.3)
shaped-renamed to (Start memory k word) shaped = shaped
shaped-renamed to other shaped = tt

used-renamed : (to : List ℕ → List ℕ) (used : Use) → used_name (renamed_use to used) ≡ to (used_name used)
used-renamed to (Starts name k) = refl
used-renamed to other = refl

in-range : (to : List ℕ → List ℕ) (used : Use) → IsInRange used → IsInRange (renamed_use to used)
in-range to (ReadsBit name k) within = within
in-range to (Starts name k) within = within
in-range to other within = tt

-- what holds of each use of an item, holds under the new names
each-use : (to : List ℕ → List ℕ) (item : Item) (P Q : Use → Type 0) → ((used : Use) → P used → Q (renamed_use to used)) → All P (uses_of item) → All Q (uses_of (renamed_item to item))
each-use to item P Q there all =
    subst (All Q) (sym (uses-renamed to item))
    (All-map Q (renamed_use to) (uses_of item) (All-weaker P (λ used. Q (renamed_use to used)) there (uses_of item) all))

allowed-renamed : (to : List ℕ → List ℕ) → KeepsApart to → KeepsNames to → (scope : Scope) (item : Item) → IsAllowed scope item → IsAllowed (renamed_scope to scope) (renamed_item to item)
allowed-renamed to apart names scope item allowed = record {
  shaped = shaped-renamed to item allowed.shaped;
  ordered = subst (λ n. scope.section ≤ n) (sym (section-renamed to item)) allowed.ordered;
  named = each-use to item (λ used. IsName (used_name used)) (λ used. IsName (used_name used))
      (λ used named. subst IsName (sym (used-renamed to used)) (names.named (used_name used) named)) allowed.named;
  in_range = each-use to item IsInRange IsInRange (in-range to) allowed.in_range;
  known = each-use to item (λ used. IsTrue (is_known scope used)) (λ used. IsTrue (is_known (renamed_scope to scope) used))
      (λ used known. known-renamed to apart scope used ∙ known) allowed.known;
  first = each-use to item (λ used. IsTrue (is_first scope used)) (λ used. IsTrue (is_first (renamed_scope to scope) used))
      (λ used first. first-renamed to apart scope used ∙ first) allowed.first;
}

-- ---- ports

away-renamed : (to : List ℕ → List ℕ) → KeepsApart to → (name : List ℕ) (names : List (List ℕ)) → AllByRecursion (λ other. bytes_eq name other ≡ false) names
    → AllByRecursion (λ other. bytes_eq (to name) other ≡ false) (map to names)
away-renamed to apart name [] away = away
away-renamed to apart name (other ∷ names) away = (apart.same name other ∙ away.0, away-renamed to apart name names away.1)

distinct-renamed : (to : List ℕ → List ℕ) → KeepsApart to → (names : List (List ℕ)) → IsDistinct bytes_eq names → IsDistinct bytes_eq (map to names)
distinct-renamed to apart [] distinct = distinct
distinct-renamed to apart (name ∷ names) distinct =
    IsDistinct-cons bytes_eq (to name) (map to names) (away-renamed to apart name names (IsDistinct-head bytes_eq name names distinct))
    (distinct-renamed to apart names (IsDistinct-tail bytes_eq name names distinct))

port-names : (to : List ℕ → List ℕ) (ports : List Port) → map (λ port. port.name) (map (renamed_port to) ports) ≡ map to (map (λ port. port.name) ports)
port-names to [] = refl
port-names to (port ∷ ports) = ap (λ rest. to port.name ∷ rest) (port-names to ports)

-- ---- modules

allowed-at : (to : List ℕ → List ℕ) → KeepsApart to → KeepsNames to → (ports : List Port) (items : List Item) → IsBegun ports items → (i : ℕ) (found : Option Item) → slice_get items i ≡ found
    → (item : Item) → option_map (renamed_item to) found ≡ Some item → IsAllowed (scope_of (map (renamed_port to) ports) (take i (map (renamed_item to) items))) item
allowed-at to apart names ports items begun i (Some old) here item at =
    let scope : scope_of (map (renamed_port to) ports) (take i (map (renamed_item to) items)) ≡ renamed_scope to (scope_of ports (take i items)) =
    ap (scope_of (map (renamed_port to) ports)) (take-map (renamed_item to) i items) ∙ scope-renamed to ports (take i items) in
    let same : renamed_item to old ≡ item = cc in
    subst (λ s. IsAllowed s item) (sym scope)
    (subst (IsAllowed (renamed_scope to (scope_of ports (take i items)))) same (allowed-renamed to apart names (scope_of ports (take i items)) old (begun.allowed i old here)))
allowed-at to apart names ports items begun i None here item at = absurd cc

begun-renamed : (to : List ℕ → List ℕ) → KeepsApart to → KeepsNames to → (ports : List Port) (items : List Item) → IsBegun ports items → IsBegun (map (renamed_port to) ports) (map (renamed_item to) items)
begun-renamed to apart names ports items begun = record {
  named = All-map (λ port. IsName port.name) (renamed_port to) ports
      (All-weaker (λ port. IsName port.name) (λ port. IsName (to port.name)) (λ port named. names.named port.name named) ports begun.named);
  apart = subst (IsDistinct bytes_eq) (sym (port-names to ports)) (distinct-renamed to apart (map (λ port. port.name) ports) begun.apart);
  allowed = λ i item at. allowed-at to apart names ports items begun i (slice_get items i) refl item (sym (slice_get-map (renamed_item to) items i) ∙ at);
}

complete-renamed : (to : List ℕ → List ℕ) → KeepsApart to → (ports : List Port) (items : List Item) → IsComplete ports items → IsComplete (map (renamed_port to) ports) (map (renamed_item to) items)
complete-renamed to apart ports items complete =
    All-map (λ port. IsTrue port.output → IsTrue (is_assigned (map (renamed_item to) items) port.name)) (renamed_port to) ports
    (All-weaker (λ port. IsTrue port.output → IsTrue (is_assigned items port.name)) (λ port. IsTrue port.output → IsTrue (is_assigned (map (renamed_item to) items) (to port.name)))
    (λ port assigned output. ap (λ names. has_name names (to port.name)) (assigned-renamed to items) ∙ is-among to apart (flat_map assigned_by (flat_map uses_of items)) port.name ∙ assigned output) ports complete)

-- a well-formed module is so under names that are apart
pub module-renamed : (to : List ℕ → List ℕ) → KeepsApart to → KeepsNames to → (m : Parts) → IsModule m → IsModule (renamed_parts to m)
module-renamed to apart names m whole = record {
  named = whole.named;
  begun = begun-renamed to apart names m.ports m.items whole.begun;
  complete = complete-renamed to apart m.ports m.items whole.complete;
}
