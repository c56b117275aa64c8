-- Registers with an asynchronous set or reset, in well-formed modules.
use Rattle.std.proofs.Common.{◌≡◌, ℕ, zero, suc, ◌+◌, ◌<◌, ◌≤◌, Bool, true, false, cond, List, [], ◌∷◌, ◌++◌, append_assoc, Option, Some, None, inl, inr, ap, ap₂, arith, get_or, length, refl, subst, sym, take, drop, ltb, ◌∙◌}
use Rattle.std.specs.Prelude.{◌||◌, ◌&&◌, not, IsTrue, bytes_eq, flat_map, map, slice_get, unwrap_or}
use Rattle.std.specs.List.{list_all}
use Rattle.std.proofs.lemmas.Bool.{cases_Bool, ltb-false, ltb-true}
use Rattle.std.proofs.lemmas.List.{take-append-drop}
use Rattle.std.proofs.lemmas.List.Concat.{flat_map-append}
use Rattle.std.proofs.lemmas.List.Folds.{list_all-append}
use Rattle.std.proofs.lemmas.List.Sums.{fold_more}
use Rattle.std.proofs.lemmas.Option.{get_or_from_slice_get, slice_get-get_or, slice_get_within}
use Rattle.std.proofs.lemmas.Slice.Eq.{bytes_eq-Decides}
use Rattle.vlog_module.specs.declared.atoms.Atom.{Atom}
use Rattle.vlog_module.specs.declared.atoms.Atom.TheVariants.{Bit, Whole, Part}
use Rattle.vlog_module.specs.declared.item.Item.{Item}
use Rattle.vlog_module.specs.declared.item.Item.TheVariants.{Register as RegisterItem, Word as WordItem, Memory as MemoryItem, Wire as WireItem, Assign, FlipFlop, AsyncFlipFlop, AsyncReset, Read, ReadNarrow, Write, WriteNarrow, Start}
use Rattle.vlog_module.specs.declared.item.Right.{Right}
use Rattle.vlog_module.specs.declared.item.Right.TheVariants.{Bit as RightBit, Whole as RightWhole, Part as RightPart, Lut as RightLut, Majority, Choose}
use Rattle.vlog_module.specs.declared.modules.Port.{Port}
use Rattle.vlog_module.specs.declared.sort.Sort.{Sort}
use Rattle.vlog_module.specs.declared.sort.Sort.TheVariants.{Input, Output, Register, Word, Memory, Wire}
use Rattle.vlog_module.specs.Maps.{value_in}
use Rattle.vlog_module.specs.Parts.{Parts}
use Rattle.vlog_module.specs.Uses.{Use, atom_uses, atoms_uses, lut_uses, right_uses, uses_of}
use Rattle.vlog_module.specs.Uses.Use.{Assigns, AssignsAsync, Takes}
use Rattle.vlog_module.specs.WellFormed.{IsAllowed, IsModule, Reading, Scope, declared_by, is_known, is_read_unless, is_sort, is_unless, port_sort, scope_of, section_of, sort_in, wire_readings}
use Rattle.vlog_semantics.specs.ModuleSlots.{wire_names}
use Rattle.vlog_semantics.specs.Named.{has_name}

-- an asynchronous set or reset, which makes a register a bit while a wire is 1
pub record AtOnce : Type 0 where
  pub reset : List ℕ
  pub set_to : Bool
  pub target : List ℕ

some-same : {A : Type 0} (a b : A) → Some a ≡ Some b → a ≡ b
some-same {A = A} a b is = ap (λ (found : Option A). unwrap_or found a) is

unfoldable pub at_once : Item → Option AtOnce
at_once (AsyncFlipFlop falling clock reset set_to target enable lut) = Some (record { reset = reset; set_to = set_to; target = target })
at_once (AsyncReset reset set_to target) = Some (record { reset = reset; set_to = set_to; target = target })
at_once _ = None

-- ---- what is known of such an item

pub record KnownAtOnce (scope : Scope) (one : AtOnce) : Type 0 where
  pub wire : IsTrue (is_known scope (Takes Wire one.reset))
  pub register : IsTrue (is_known scope (AssignsAsync one.reset one.set_to one.target))

known-in : (scope : Scope) (item : Item) (one : AtOnce) → IsAllowed scope item → at_once item ≡ Some one → KnownAtOnce scope one
unfolding at_once
known-in scope (RegisterItem name start) one allowed is = cc
known-in scope (WordItem name start) one allowed is = cc
known-in scope (MemoryItem name) one allowed is = cc
known-in scope (WireItem name right) one allowed is = cc
known-in scope (Assign name value) one allowed is = cc
known-in scope (FlipFlop falling clock enable reset set_to target lut) one allowed is = cc
known-in scope (AsyncFlipFlop falling clock reset set_to target enable lut) one allowed is =
    subst (KnownAtOnce scope) (some-same _ one is) (record {
      wire = allowed.known 1 (Takes Input clock) (omega arith);
      register = allowed.known 2 (Takes Input clock) (omega arith);
    })
known-in scope (AsyncReset reset set_to target) one allowed is =
    subst (KnownAtOnce scope) (some-same _ one is) (record {
      wire = allowed.known 0 (Takes Input reset) (omega arith);
      register = allowed.known 1 (Takes Input reset) (omega arith);
    })
known-in scope (Read falling clock clock_enable enable target memory address) one allowed is = cc
known-in scope (ReadNarrow falling clock clock_enable enable target memory address shift pattern) one allowed is = cc
known-in scope (Write falling clock clock_enable enable memory address mask bits) one allowed is = cc
known-in scope (WriteNarrow falling clock clock_enable enable memory address pattern shift bits) one allowed is = cc
known-in scope (Start memory k word) one allowed is = cc

section-in : (item : Item) (one : AtOnce) → at_once item ≡ Some one → section_of item ≡ 7
unfolding at_once
section-in (RegisterItem name start) one is = cc
section-in (WordItem name start) one is = cc
section-in (MemoryItem name) one is = cc
section-in (WireItem name right) one is = cc
section-in (Assign name value) one is = cc
section-in (FlipFlop falling clock enable reset set_to target lut) one is = refl
section-in (AsyncFlipFlop falling clock reset set_to target enable lut) one is = refl
section-in (AsyncReset reset set_to target) one is = refl
section-in (Read falling clock clock_enable enable target memory address) one is = cc
section-in (ReadNarrow falling clock clock_enable enable target memory address shift pattern) one is = cc
section-in (Write falling clock clock_enable enable memory address mask bits) one is = cc
section-in (WriteNarrow falling clock clock_enable enable memory address pattern shift bits) one is = cc
section-in (Start memory k word) one is = cc

-- ---- sorts

wire-found : (found : Option Sort) → IsTrue (is_sort Wire found) → found ≡ Some Wire
wire-found (Some Input) is = cc
wire-found (Some Output) is = cc
wire-found (Some Register) is = cc
wire-found (Some Word) is = cc
wire-found (Some Memory) is = cc
wire-found (Some Wire) is = refl
wire-found None is = cc

register-found : (found : Option Sort) → IsTrue (is_sort Register found) → found ≡ Some Register
register-found (Some Input) is = cc
register-found (Some Output) is = cc
register-found (Some Register) is = refl
register-found (Some Word) is = cc
register-found (Some Memory) is = cc
register-found (Some Wire) is = cc
register-found None is = cc

-- what is found among some is found among more
pub found-more : {A : Type 0} (some more : List (List ℕ × A)) (name : List ℕ) (value : A) → value_in some name ≡ Some value → value_in (some ++ more) name ≡ Some value
found-more [] more name value is = cc
found-more {A = A} (entry ∷ some) more name value is =
    elim (cases_Bool (bytes_eq entry.0 name)) [
      | inl here ↦ ap (λ b. cond b (Some entry.1) (value_in (some ++ more) name)) here ∙ sym (ap (λ b. cond b (Some entry.1) (value_in some name)) here) ∙ is
      | inr away ↦ ap (λ b. cond b (Some entry.1) (value_in (some ++ more) name)) away
          ∙ found-more some more name value (sym (ap (λ b. cond b (Some entry.1) (value_in some name)) away) ∙ is)
    ]

-- what the first items declare, all items declare
declared-more : (ports : List Port) (items : List Item) (i : ℕ) (name : List ℕ) (sort : Sort)
    → sort_in (scope_of ports (take i items)).declared name ≡ Some sort → sort_in (scope_of ports items).declared name ≡ Some sort
declared-more ports items i name sort is =
    let first : List (List ℕ × Sort) = map (λ (port : Port). (port.name, port_sort port)) ports in
    let of : List Item → List (List ℕ × Sort) = λ list. flat_map declared_by (flat_map uses_of list) in
    let apart : of items ≡ of (take i items) ++ of (drop i items) =
    ap of (sym (take-append-drop i items))
    ∙ ap (flat_map declared_by) (flat_map-append uses_of (take i items) (drop i items))
    ∙ flat_map-append declared_by (flat_map uses_of (take i items)) (flat_map uses_of (drop i items)) in
    ap (λ list. value_in (first ++ list) name) apart
    ∙ ap (λ list. value_in list name) (sym (append_assoc first (of (take i items)) (of (drop i items))))
    ∙ found-more (first ++ of (take i items)) (of (drop i items)) name sort is

-- ---- the order of such items

-- what each item of a module says, by its place
pub record IsDeclared (m : Parts) (one : AtOnce) : Type 0 where
  pub wire : sort_in (scope_of m.ports m.items).declared one.reset ≡ Some Wire
  pub register : sort_in (scope_of m.ports m.items).declared one.target ≡ Some Register

pub and-left : (a b : Bool) → (a && b) ≡ true → a ≡ true
and-left true b is = refl
and-left false b is = cc

pub and-right : (a b : Bool) → (a && b) ≡ true → b ≡ true
and-right true b is = is
and-right false b is = cc

pub declared-at : (m : Parts) (i : ℕ) (item : Item) (one : AtOnce) → IsModule m → slice_get m.items i ≡ Some item → at_once item ≡ Some one → IsDeclared m one
declared-at m i item one whole at is =
    let scope : Scope = scope_of m.ports (take i m.items) in
    let known : KnownAtOnce scope one = known-in scope item one (whole.begun.allowed i item at) is in
    record {
      wire = declared-more m.ports m.items i one.reset Wire (wire-found (sort_in scope.declared one.reset) known.wire);
      register = declared-more m.ports m.items i one.target Register (register-found (sort_in scope.declared one.target) (and-left (is_sort Register (sort_in scope.declared one.target)) (is_read_unless scope.read one.reset one.set_to one.target) known.register));
    }

not-both : (b : Bool) → Some Wire ≡ Some Register → b ≡ false
not-both b is = cc

-- a wire is no register
pub wire-apart : (m : Parts) (one : AtOnce) (name : List ℕ) → IsDeclared m one → sort_in (scope_of m.ports m.items).declared name ≡ Some Wire → bytes_eq one.target name ≡ false
wire-apart m one name declared wire =
    elim (cases_Bool (bytes_eq one.target name)) [
      | inl same ↦ not-both (bytes_eq one.target name) (sym wire ∙ ap (sort_in (scope_of m.ports m.items).declared) (sym ((bytes_eq-Decides one.target name).0 same)) ∙ declared.register)
      | inr apart ↦ apart
    ]

-- sections don't fall
rises : (m : Parts) (i : ℕ) (item : Item) (k : ℕ) → IsModule m → slice_get m.items i ≡ Some item → i < k → k ≤ length m.items
    → section_of item ≤ (scope_of m.ports (take k m.items)).section
rises m i item zero whole at lt within = absurd (omega arith)
rises m i item (suc k) whole at lt within =
    let last : Item = get_or m.items k item in
    let here : k < length m.items = omega arith in
    let by : suc k ≡ k + 1 = omega arith in
    let next : (scope_of m.ports (take (suc k) m.items)).section ≡ section_of last =
    ap (λ n. (scope_of m.ports (take n m.items)).section) by ∙ fold_more (λ before (other : Item). section_of other) 1 m.items k item here in
    elim (cases_Bool (ltb i k)) [
      | inl below ↦
          let ordered : (scope_of m.ports (take k m.items)).section ≤ section_of last = (whole.begun.allowed k last (slice_get-get_or m.items k item here)).ordered in
          omega (arith, next, ordered, rises m i item k whole at (ltb-true i k below) (omega arith))
      | inr above ↦
          let same : i ≡ k = omega (arith, ltb-false i k above) in
          let is : last ≡ item = get_or_from_slice_get m.items k item item (ap (slice_get m.items) (sym same) ∙ at) in
          omega (arith, next, ap section_of is)
    ]

all-read : (test : List ℕ × Reading → Bool) (items : List Item) (k : ℕ) (item : Item) → list_all test (flat_map wire_readings items) ≡ true → slice_get items k ≡ Some item
    → list_all test (wire_readings item) ≡ true
all-read test [] k item passes at = cc
all-read test (first ∷ items) zero item passes at =
    ap (λ x. list_all test (wire_readings x)) (sym (some-same first item at))
    ∙ and-left (list_all test (wire_readings first)) (list_all test (flat_map wire_readings items)) (sym (list_all-append test (wire_readings first) (flat_map wire_readings items)) ∙ passes)
all-read test (first ∷ items) (suc k) item passes at =
    all-read test items k item (and-right (list_all test (wire_readings first)) (list_all test (flat_map wire_readings items)) (sym (list_all-append test (wire_readings first) (flat_map wire_readings items)) ∙ passes)) at

-- how a wire may read: a register without asynchronous set or reset as it is, others with the same wire and bit
abbrev pub is_read_well : AtOnce → List ℕ × Reading → Bool
is_read_well one reading = not (bytes_eq reading.0 one.target) || is_unless one.reset one.set_to reading.1

get-take : (items : List Item) (i k : ℕ) (item : Item) → k < i → slice_get items k ≡ Some item → slice_get (take i items) k ≡ Some item
get-take [] i k item lt at = cc
get-take (first ∷ items) zero k item lt at = absurd (omega arith)
get-take (first ∷ items) (suc i) zero item lt at = at
get-take (first ∷ items) (suc i) (suc k) item lt at = get-take items i k item (omega arith) at

below-length : (items : List Item) (k : ℕ) (item : Item) → slice_get items k ≡ Some item → k ≤ length items
below-length items k item at = omega (arith, slice_get_within items k item at)

-- each wire reads so each register with an asynchronous set or reset
pub read-well : (m : Parts) (i k : ℕ) (item wire : Item) (one : AtOnce) → IsModule m → slice_get m.items i ≡ Some item → at_once item ≡ Some one → slice_get m.items k ≡ Some wire → section_of wire ≡ 5
    → list_all (is_read_well one) (wire_readings wire) ≡ true
read-well m i k item wire one whole at is wire_at wire_is =
    let scope : Scope = scope_of m.ports (take i m.items) in
    let known : KnownAtOnce scope one = known-in scope item one (whole.begun.allowed i item at) is in
    elim (cases_Bool (ltb k i)) [
      | inl before ↦
          all-read (is_read_well one) (take i m.items) k wire
          (and-right (is_sort Register (sort_in scope.declared one.target)) (is_read_unless scope.read one.reset one.set_to one.target) known.register)
          (get-take m.items i k wire (ltb-true k i before) wire_at)
      | inr after ↦
          let seven : section_of item ≡ 7 = section-in item one is in
          let ordered : (scope_of m.ports (take k m.items)).section ≤ section_of wire = (whole.begun.allowed k wire wire_at).ordered in
          elim (cases_Bool (ltb i k)) [
            | inl first ↦ absurd (omega (arith, seven, wire_is, ordered, rises m i item k whole at (ltb-true i k first) (below-length m.items k wire wire_at)))
            | inr last ↦
                let same : i ≡ k = omega (arith, ltb-false k i after, ltb-false i k last) in
                let one_item : item ≡ wire = some-same item wire (sym at ∙ ap (slice_get m.items) same ∙ wire_at) in
                absurd (omega (arith, seven, wire_is, ap section_of one_item))
          ]
    ]

-- ---- wires that are declared have names

none-append : (xs ys : List Use) → flat_map declared_by xs ≡ [] → flat_map declared_by ys ≡ [] → flat_map declared_by (xs ++ ys) ≡ []
none-append xs ys first rest = flat_map-append declared_by xs ys ∙ ap₂ (λ a b. a ++ b) first rest

atom-none : (atom : Atom) → flat_map declared_by (atom_uses atom) ≡ []
atom-none (Bit bit) = refl
atom-none (Whole name) = refl
atom-none (Part name k) = refl

atoms-none : (atoms : List Atom) → flat_map declared_by (atoms_uses atoms) ≡ []
atoms-none [] = refl
atoms-none (atom ∷ atoms) = none-append (atoms_uses atoms) (atom_uses atom) (atoms-none atoms) (atom-none atom)

right-none : (right : Right) → flat_map declared_by (right_uses right) ≡ []
right-none (RightBit bit) = refl
right-none (RightWhole name) = refl
right-none (RightPart name k) = refl
right-none (RightLut lut) = atoms-none lut.ins
right-none (Majority a b c) = none-append (atom_uses a ++ atom_uses b) (atom_uses c) (none-append (atom_uses a) (atom_uses b) (atom-none a) (atom-none b)) (atom-none c)
right-none (Choose reset set_to target) = refl

-- what an item declares
declares : Item → List (List ℕ × Sort)
declares (RegisterItem name start) = (name, Register) ∷ []
declares (WordItem name start) = (name, Word) ∷ []
declares (MemoryItem name) = (name, Memory) ∷ []
declares (WireItem name right) = (name, Wire) ∷ []
declares _ = []

read-none : (clock_enable enable : Atom) (target memory : List ℕ) (address : List Atom)
    → flat_map declared_by (atom_uses clock_enable ++ atom_uses enable ++ (Assigns Word target ∷ Takes Memory memory ∷ atoms_uses address)) ≡ []
read-none clock_enable enable target memory address =
    none-append (atom_uses clock_enable ++ atom_uses enable) (Assigns Word target ∷ Takes Memory memory ∷ atoms_uses address)
    (none-append (atom_uses clock_enable) (atom_uses enable) (atom-none clock_enable) (atom-none enable)) (atoms-none address)

write-none : (clock_enable enable : Atom) (memory : List ℕ) (address more bits : List Atom)
    → flat_map declared_by (atom_uses clock_enable ++ atom_uses enable ++ (Assigns Memory memory ∷ atoms_uses address) ++ atoms_uses more ++ atoms_uses bits) ≡ []
write-none clock_enable enable memory address more bits =
    none-append ((atom_uses clock_enable ++ atom_uses enable ++ (Assigns Memory memory ∷ atoms_uses address)) ++ atoms_uses more) (atoms_uses bits)
    (none-append (atom_uses clock_enable ++ atom_uses enable ++ (Assigns Memory memory ∷ atoms_uses address)) (atoms_uses more)
    (none-append (atom_uses clock_enable ++ atom_uses enable) (Assigns Memory memory ∷ atoms_uses address)
    (none-append (atom_uses clock_enable) (atom_uses enable) (atom-none clock_enable) (atom-none enable)) (atoms-none address))
    (atoms-none more))
    (atoms-none bits)

item-declares : (item : Item) → flat_map declared_by (uses_of item) ≡ declares item
unfolding declares
item-declares (RegisterItem name start) = refl
item-declares (WordItem name start) = refl
item-declares (MemoryItem name) = refl
item-declares (WireItem name right) = ap (λ rest. (name, Wire) ∷ rest) (right-none right)
item-declares (Assign name value) = atom-none value
item-declares (FlipFlop falling clock enable reset set_to target lut) =
    none-append (atom_uses enable ++ atom_uses reset) (Assigns Register target ∷ lut_uses lut) (none-append (atom_uses enable) (atom_uses reset) (atom-none enable) (atom-none reset)) (atoms-none lut.ins)
item-declares (AsyncFlipFlop falling clock reset set_to target enable lut) = none-append (atom_uses enable) (lut_uses lut) (atom-none enable) (atoms-none lut.ins)
item-declares (AsyncReset reset set_to target) = refl
item-declares (Read falling clock clock_enable enable target memory address) = read-none clock_enable enable target memory address
item-declares (ReadNarrow falling clock clock_enable enable target memory address shift pattern) =
    none-append (atom_uses clock_enable ++ atom_uses enable ++ (Assigns Word target ∷ Takes Memory memory ∷ atoms_uses address)) (atoms_uses shift)
    (read-none clock_enable enable target memory address) (atoms-none shift)
item-declares (Write falling clock clock_enable enable memory address mask bits) = write-none clock_enable enable memory address mask bits
item-declares (WriteNarrow falling clock clock_enable enable memory address pattern shift bits) = write-none clock_enable enable memory address shift bits
item-declares (Start memory k word) = refl

past-sort : (sort : Sort) (b : Bool) (found : Option Sort) → is_sort Wire (Some sort) ≡ false → cond b (Some sort) found ≡ Some Wire → found ≡ Some Wire
past-sort Input true found other is = cc
past-sort Output true found other is = cc
past-sort Register true found other is = cc
past-sort Word true found other is = cc
past-sort Memory true found other is = cc
past-sort Wire true found other is = cc
past-sort sort false found other is = is

port-sort : (output : Bool) → is_sort Wire (Some (cond output Output Input)) ≡ false
port-sort true = refl
port-sort false = refl

-- no port is a wire
ports-apart : (ports : List Port) (rest : List (List ℕ × Sort)) (name : List ℕ) → value_in (map (λ port. (port.name, port_sort port)) ports ++ rest) name ≡ Some Wire → value_in rest name ≡ Some Wire
ports-apart [] rest name is = is
ports-apart (port ∷ ports) rest name is =
    ports-apart ports rest name (past-sort (port_sort port) (bytes_eq port.name name) (value_in (map (λ (p : Port). (p.name, port_sort p)) ports ++ rest) name) (port-sort port.output) is)

named-here : (b rest : Bool) (found : Option Sort) → cond b (Some Wire) found ≡ Some Wire → (found ≡ Some Wire → rest ≡ true) → (b || rest) ≡ true
named-here true rest found is more = refl
named-here false rest found is more = more is

named-first : (item : Item) (items : List Item) (rest : List (List ℕ × Sort)) (name : List ℕ) → value_in (declares item ++ rest) name ≡ Some Wire
    → (value_in rest name ≡ Some Wire → has_name (wire_names items) name ≡ true) → has_name (wire_names (item ∷ items)) name ≡ true
unfolding declares
named-first (RegisterItem other start) items rest name is more = more (past-sort Register (bytes_eq other name) (value_in rest name) refl is)
named-first (WordItem other start) items rest name is more = more (past-sort Word (bytes_eq other name) (value_in rest name) refl is)
named-first (MemoryItem other) items rest name is more = more (past-sort Memory (bytes_eq other name) (value_in rest name) refl is)
named-first (WireItem other right) items rest name is more = named-here (bytes_eq other name) (has_name (wire_names items) name) (value_in rest name) is more
named-first other items rest name is more = more is

wire-named : (items : List Item) (name : List ℕ) → value_in (flat_map declared_by (flat_map uses_of items)) name ≡ Some Wire → has_name (wire_names items) name ≡ true
wire-named [] name is = cc
wire-named (item ∷ items) name is =
    let rest : List (List ℕ × Sort) = flat_map declared_by (flat_map uses_of items) in
    let first : value_in (declares item ++ rest) name ≡ Some Wire =
    ap (λ list. value_in list name) (ap (λ list. list ++ rest) (sym (item-declares item)) ∙ sym (flat_map-append declared_by (uses_of item) (flat_map uses_of items))) ∙ is in
    named-first item items rest name first (wire-named items name)

-- ---- a wire that chooses

-- the wire that a wire chooses by
pub record ChoosesBy (m : Parts) (k : ℕ) (reset : List ℕ) : Type 0 where
  pub declared : sort_in (scope_of m.ports m.items).declared reset ≡ Some Wire
  pub before : has_name (wire_names (take k m.items)) reset ≡ true

pub chooses-by : (m : Parts) (k : ℕ) (name reset target : List ℕ) (set_to : Bool) → IsModule m → slice_get m.items k ≡ Some (WireItem name (Choose reset set_to target)) → ChoosesBy m k reset
chooses-by m k name reset target set_to whole at =
    let scope : Scope = scope_of m.ports (take k m.items) in
    let found : sort_in scope.declared reset ≡ Some Wire =
    wire-found (sort_in scope.declared reset) ((whole.begun.allowed k (WireItem name (Choose reset set_to target)) at).known 1 (Takes Wire reset) (omega arith)) in
    record {
      declared = declared-more m.ports m.items k reset Wire found;
      before = wire-named (take k m.items) reset (ports-apart m.ports (flat_map declared_by (flat_map uses_of (take k m.items))) reset found);
    }
