-- What items declare, read and assign under other names.
use Rattle.std.proofs.Common.{◌≡◌, ℕ, ◌==◌, Bool, false, not, ◌&&◌, ◌||◌, List, [], ◌∷◌, ◌++◌, flat_map, refl, sym, ap, ap₂, ◌∙◌}
use Rattle.std.specs.Prelude.{bytes_eq, map, fold, is_none}
use Rattle.std.specs.List.{list_any}
use Rattle.std.proofs.lemmas.List.{map-append}
use Rattle.vlog_module.specs.declared.atoms.Atom.{Atom}
use Rattle.vlog_module.specs.declared.atoms.Atom.TheVariants.{Bit, Whole, Part}
use Rattle.vlog_module.specs.declared.item.Right.{Right}
use Rattle.vlog_module.specs.declared.item.Right.TheVariants.{Bit as RightBit, Whole as RightWhole, Part as RightPart, Lut as RightLut, Majority, Choose}
use Rattle.vlog_module.specs.declared.item.Item.{Item}
use Rattle.vlog_module.specs.declared.item.Item.TheVariants.{Register as RegisterItem, Word as WordItem, Memory as MemoryItem, Wire as WireItem, Assign, FlipFlop, AsyncFlipFlop, AsyncReset, Read, ReadNarrow, Write, WriteNarrow, Start}
use Rattle.vlog_module.specs.declared.modules.Port.{Port}
use Rattle.vlog_module.specs.declared.sort.Sort.{Sort}
use Rattle.vlog_module.specs.declared.sort.Sort.TheVariants.{Register, Word, Memory, Wire}
use Rattle.vlog_module.specs.Uses.{Use, atom_uses, atoms_uses, right_uses, uses_of}
use Rattle.vlog_module.specs.Uses.Use.{Declares, Reads, ReadsBit, Clocks, Takes, Assigns, Chooses, AssignsAsync, Starts}
use Rattle.vlog_module.specs.WellFormed.{Reading, Scope, assigned_by, declared_by, is_clock, is_first, is_known, is_read_unless, is_sort, is_unless, has_bit, port_sort, read_by, scope_of, section_of, started_by, wire_readings}
use Rattle.vlog_module.specs.WellFormed.Reading.{plainly, unless}
use Rattle.port_names.specs.Renamed.{renamed_atom, renamed_atoms, renamed_right, renamed_item, renamed_port, renamed_values}
use Rattle.port_names.proofs.Apart.{KeepsApart, value_in-renamed, flat_map-changed, flat_map-renamed}

-- ---- uses

-- the same use of a name under its new name
abbrev pub renamed_use : (List ℕ → List ℕ) → Use → Use
renamed_use to (Declares sort name) = Declares sort (to name)
renamed_use to (Reads name) = Reads (to name)
renamed_use to (ReadsBit name k) = ReadsBit (to name) k
renamed_use to (Clocks name) = Clocks (to name)
renamed_use to (Takes sort name) = Takes sort (to name)
renamed_use to (Assigns sort name) = Assigns sort (to name)
renamed_use to (Chooses reset set name) = Chooses (to reset) set (to name)
renamed_use to (AssignsAsync reset set name) = AssignsAsync (to reset) set (to name)
renamed_use to (Starts name k) = Starts (to name) k

abbrev pub renamed_uses : (List ℕ → List ℕ) → List Use → List Use
renamed_uses to uses = map (renamed_use to) uses

atom-uses : (to : List ℕ → List ℕ) (atom : Atom) → atom_uses (renamed_atom to atom) ≡ renamed_uses to (atom_uses atom)
atom-uses to (Bit bit) = refl
atom-uses to (Whole name) = refl
atom-uses to (Part name k) = refl

atoms-uses : (to : List ℕ → List ℕ) (atoms : List Atom) → atoms_uses (renamed_atoms to atoms) ≡ renamed_uses to (atoms_uses atoms)
atoms-uses to [] = refl
atoms-uses to (atom ∷ atoms) =
    ap₂ (λ first last. first ++ last) (atoms-uses to atoms) (atom-uses to atom) ∙ sym (map-append (renamed_use to) (atoms_uses atoms) (atom_uses atom))

pub right-uses : (to : List ℕ → List ℕ) (right : Right) → right_uses (renamed_right to right) ≡ renamed_uses to (right_uses right)
right-uses to (RightBit bit) = refl
right-uses to (RightWhole name) = refl
right-uses to (RightPart name k) = refl
right-uses to (RightLut lut) = atoms-uses to lut.ins
right-uses to (Majority a b c) = simp (map-append, atom-uses to)
right-uses to (Choose reset set target) = refl

pub uses-renamed : (to : List ℕ → List ℕ) (item : Item) → uses_of (renamed_item to item) ≡ renamed_uses to (uses_of item)
uses-renamed to (RegisterItem name start) = refl
uses-renamed to (WordItem name start) = refl
uses-renamed to (MemoryItem name) = refl
uses-renamed to (WireItem name right) = ap (λ rest. Declares Wire (to name) ∷ rest) (right-uses to right)
uses-renamed to (Assign name value) = simp (atom-uses to)
uses-renamed to (FlipFlop falling clock enable reset set target lut) = simp (map-append, atom-uses to, atoms-uses to)
uses-renamed to (AsyncFlipFlop falling clock reset set target enable lut) = simp (map-append, atom-uses to, atoms-uses to)
uses-renamed to (AsyncReset reset set target) = refl
uses-renamed to (Read falling clock clock_enable enable target memory address) = simp (map-append, atom-uses to, atoms-uses to)
uses-renamed to (ReadNarrow falling clock clock_enable enable target memory address shift pattern) = simp (map-append, atom-uses to, atoms-uses to)
uses-renamed to (Write falling clock clock_enable enable memory address mask bits) = simp (map-append, atom-uses to, atoms-uses to)
uses-renamed to (WriteNarrow falling clock clock_enable enable memory address pattern shift bits) = simp (map-append, atom-uses to, atoms-uses to)
uses-renamed to (Start memory k word) = refl

-- ---- what items leave for those after them

abbrev pub renamed_reading : (List ℕ → List ℕ) → List ℕ × Reading → List ℕ × Reading
renamed_reading to (name, plainly) = (to name, plainly)
renamed_reading to (name, unless reset set) = (to name, unless (to reset) set)

abbrev pub renamed_scope : (List ℕ → List ℕ) → Scope → Scope
renamed_scope to scope = record {
  section = scope.section;
  declared = renamed_values to scope.declared;
  read = map (renamed_reading to) scope.read;
  assigned = map to scope.assigned;
  started = renamed_values to scope.started;
}

pub section-renamed : (to : List ℕ → List ℕ) (item : Item) → section_of (renamed_item to item) ≡ section_of item
section-renamed to (Start memory k word) = refl
section-renamed to other = refl

last-section : (to : List ℕ → List ℕ) (from : ℕ) (items : List Item)
    → fold (λ before item. section_of item) from (map (renamed_item to) items) ≡ fold (λ before item. section_of item) from items
last-section to from [] = refl
last-section to from (item ∷ items) =
    ap (λ next. fold (λ before one. section_of one) next (map (renamed_item to) items)) (section-renamed to item) ∙ last-section to (section_of item) items

all-uses : (to : List ℕ → List ℕ) (items : List Item) → flat_map uses_of (map (renamed_item to) items) ≡ renamed_uses to (flat_map uses_of items)
all-uses to items = flat_map-changed (renamed_item to) (renamed_use to) uses_of uses_of (uses-renamed to) items

declared-by : (to : List ℕ → List ℕ) (used : Use) → declared_by (renamed_use to used) ≡ renamed_values to (declared_by used)
declared-by to (Declares sort name) = refl
declared-by to other = refl

started-by : (to : List ℕ → List ℕ) (used : Use) → started_by (renamed_use to used) ≡ renamed_values to (started_by used)
started-by to (Starts name k) = refl
started-by to other = refl

assigned-by : (to : List ℕ → List ℕ) (used : Use) → assigned_by (renamed_use to used) ≡ map to (assigned_by used)
assigned-by to (Assigns sort name) = refl
assigned-by to (AssignsAsync reset set name) = refl
assigned-by to other = refl

read-by : (to : List ℕ → List ℕ) (used : Use) → read_by (renamed_use to used) ≡ map (renamed_reading to) (read_by used)
read-by to (Reads name) = refl
read-by to (Chooses reset set name) = refl
read-by to other = refl

readings : (to : List ℕ → List ℕ) (item : Item) → wire_readings (renamed_item to item) ≡ map (renamed_reading to) (wire_readings item)
readings to (WireItem name right) =
    ap (flat_map read_by) (right-uses to right) ∙ flat_map-changed (renamed_use to) (renamed_reading to) read_by read_by (read-by to) (right_uses right)
readings to other = refl

ports-declared : (to : List ℕ → List ℕ) (ports : List Port)
    → map (λ port. (port.name, port_sort port)) (map (renamed_port to) ports) ≡ renamed_values to (map (λ port. (port.name, port_sort port)) ports)
ports-declared to [] = refl
ports-declared to (port ∷ ports) = ap (λ rest. (to port.name, port_sort port) ∷ rest) (ports-declared to ports)

pub assigned-renamed : (to : List ℕ → List ℕ) (items : List Item)
    → flat_map assigned_by (flat_map uses_of (map (renamed_item to) items)) ≡ map to (flat_map assigned_by (flat_map uses_of items))
assigned-renamed to items =
    ap (flat_map assigned_by) (all-uses to items) ∙ flat_map-changed (renamed_use to) to assigned_by assigned_by (assigned-by to) (flat_map uses_of items)

pub scope-renamed : (to : List ℕ → List ℕ) (ports : List Port) (items : List Item)
    → scope_of (map (renamed_port to) ports) (map (renamed_item to) items) ≡ renamed_scope to (scope_of ports items)
scope-renamed to ports items =
    let changed_items : List Item = map (renamed_item to) items in
    let uses : List Use = flat_map uses_of items in
    let first : List (List ℕ × Sort) = map (λ (port : Port). let one : List ℕ × Sort = (port.name, port_sort port) in one) ports in
    let section : fold (λ before item. section_of item) 1 changed_items ≡ fold (λ before item. section_of item) 1 items = last-section to 1 items in
    let declared : map (λ (port : Port). let one : List ℕ × Sort = (port.name, port_sort port) in one) (map (renamed_port to) ports) ++ flat_map declared_by (flat_map uses_of changed_items) ≡ renamed_values to (first ++ flat_map declared_by uses) =
    ap₂ (λ a b. a ++ b) (ports-declared to ports) (ap (flat_map declared_by) (all-uses to items) ∙ flat_map-renamed to (renamed_use to) declared_by (declared-by to) uses)
    ∙ sym (map-append (λ (entry : List ℕ × Sort). let one : List ℕ × Sort = (to entry.0, entry.1) in one) first (flat_map declared_by uses)) in
    let read : flat_map wire_readings changed_items ≡ map (renamed_reading to) (flat_map wire_readings items) = flat_map-changed (renamed_item to) (renamed_reading to) wire_readings wire_readings (readings to) items in
    let assigned : flat_map assigned_by (flat_map uses_of changed_items) ≡ map to (flat_map assigned_by uses) = assigned-renamed to items in
    let started : flat_map started_by (flat_map uses_of changed_items) ≡ renamed_values to (flat_map started_by uses) =
    ap (flat_map started_by) (all-uses to items) ∙ flat_map-renamed to (renamed_use to) started_by (started-by to) uses in
    λ i. record { section = section i; declared = declared i; read = read i; assigned = assigned i; started = started i }

-- ---- which item may come next

pub is-among : (to : List ℕ → List ℕ) → KeepsApart to → (names : List (List ℕ)) (name : List ℕ) → list_any (λ other. bytes_eq other (to name)) (map to names) ≡ list_any (λ other. bytes_eq other name) names
is-among to apart [] name = refl
is-among to apart (other ∷ names) name = ap₂ (λ a b. a || b) (apart.same other name) (is-among to apart names name)

is-started : (to : List ℕ → List ℕ) → KeepsApart to → (started : List (List ℕ × ℕ)) (name : List ℕ) (k : ℕ)
    → list_any (λ other. bytes_eq other.0 (to name) && (other.1 == k)) (renamed_values to started) ≡ list_any (λ other. bytes_eq other.0 name && (other.1 == k)) started
is-started to apart [] name k = refl
is-started to apart (other ∷ started) name k = ap₂ (λ a b. (a && (other.1 == k)) || b) (apart.same other.0 name) (is-started to apart started name k)

unless-renamed : (to : List ℕ → List ℕ) → KeepsApart to → (reset : List ℕ) (set : Bool) (name : List ℕ) (one : List ℕ × Reading)
    → (not (bytes_eq (renamed_reading to one).0 (to name)) || is_unless (to reset) set (renamed_reading to one).1) ≡ (not (bytes_eq one.0 name) || is_unless reset set one.1)
unless-renamed to apart reset set name (other, plainly) = ap (λ b. not b || false) (apart.same other name)
unless-renamed to apart reset set name (other, unless wire bit) = rw (apart.same other name, apart.same wire reset) refl

read-unless : (to : List ℕ → List ℕ) → KeepsApart to → (read : List (List ℕ × Reading)) (reset : List ℕ) (set : Bool) (name : List ℕ)
    → is_read_unless (map (renamed_reading to) read) (to reset) set (to name) ≡ is_read_unless read reset set name
read-unless to apart [] reset set name = refl
read-unless to apart (one ∷ read) reset set name = ap₂ (λ a b. a && b) (unless-renamed to apart reset set name one) (read-unless to apart read reset set name)

pub known-renamed : (to : List ℕ → List ℕ) → KeepsApart to → (scope : Scope) (used : Use) → is_known (renamed_scope to scope) (renamed_use to used) ≡ is_known scope used
known-renamed to apart scope (Declares sort name) = refl
known-renamed to apart scope (Reads name) = ap has_bit (value_in-renamed to apart scope.declared name)
known-renamed to apart scope (ReadsBit name k) = ap (is_sort Word) (value_in-renamed to apart scope.declared name)
known-renamed to apart scope (Clocks name) = ap is_clock (value_in-renamed to apart scope.declared name)
known-renamed to apart scope (Takes sort name) = ap (is_sort sort) (value_in-renamed to apart scope.declared name)
known-renamed to apart scope (Assigns sort name) = ap (is_sort sort) (value_in-renamed to apart scope.declared name)
known-renamed to apart scope (Chooses reset set name) = ap (is_sort Register) (value_in-renamed to apart scope.declared name)
known-renamed to apart scope (AssignsAsync reset set name) =
    ap₂ (λ found b. is_sort Register found && b) (value_in-renamed to apart scope.declared name) (read-unless to apart scope.read reset set name)
known-renamed to apart scope (Starts name k) = ap (is_sort Memory) (value_in-renamed to apart scope.declared name)

pub first-renamed : (to : List ℕ → List ℕ) → KeepsApart to → (scope : Scope) (used : Use) → is_first (renamed_scope to scope) (renamed_use to used) ≡ is_first scope used
first-renamed to apart scope (Declares sort name) = ap is_none (value_in-renamed to apart scope.declared name)
first-renamed to apart scope (Assigns sort name) = ap not (is-among to apart scope.assigned name)
first-renamed to apart scope (AssignsAsync reset set name) = ap not (is-among to apart scope.assigned name)
first-renamed to apart scope (Starts name k) = ap not (is-started to apart scope.started name k)
first-renamed to apart scope other = refl
