-- What the items of a written module use is declared before them.
use Rattle.std.proofs.Common.{◌≡◌, ℕ, ◌<◌, ◌≤◌, Bool, true, false, List, [], ◌∷◌, ◌++◌, length, get_or, refl, sym, ap, ◌∙◌, subst, inl, inr}
use Rattle.std.specs.Prelude.{All, Contains, Option, Some, None, option_to_list, IsTrue}
use Rattle.std.proofs.lemmas.Bool.{cases_Bool}
use Rattle.std.proofs.lemmas.List.Elements.{All-nil, All-cons, All-head, All-tail, All-append, All-weaker}
use Rattle.vlog_module.specs.Maps.{value_in}
use Rattle.vlog_module.specs.declared.sort.Sort.{Sort}
use Rattle.vlog_module.specs.declared.sort.Sort.TheVariants as sort
use Rattle.vlog_module.specs.declared.atoms.Atom.{Atom}
use Rattle.vlog_module.specs.declared.atoms.Atom.TheVariants.{Bit, Whole, Part}
use Rattle.vlog_module.specs.declared.item.Item.{Item}
use Rattle.vlog_module.specs.Names.{IsName}
use Rattle.vlog_module.specs.Uses.{Use, used_name, atom_uses, atoms_uses, lut_uses, right_uses, uses_of}
use Rattle.vlog_module.specs.Uses.Use.{Reads, ReadsBit, Takes, Chooses}
use Rattle.vlog_module.specs.WellFormed.{section_of, sort_in, is_clock, Scope, is_known, is_first, IsInRange, IsShaped, IsAllowed}
use Rattle.fabric_model.specs.declared.signal.Signal.{Signal}
use Rattle.fabric_model.specs.declared.signal.Signal.TheVariants as signal
use Rattle.fabric_model.specs.declared.register.LutTable.{LutTable}
use Rattle.fabric_model.specs.declared.register.Register.{Register}
use Rattle.fabric_model.specs.Joins.{class_of}
use Rattle.fabric_model.specs.Fabric.{Fabric, inputs_of}
use Rattle.fabric_model.specs.Signals.{net_or_0, signal_nets}
use Rattle.fabric_model.specs.Drivers.{Rule, nets_read}
use Rattle.fabric_model.specs.Drivers.Rule.{pin_bit, constant, input, table_entry, majority_of, register_bit, read_bit, copied}
use Rattle.fabric_model.specs.Values.{is_connected}
use Rattle.graph_order.specs.Wiring.{has}
use Rattle.fabric_model.proofs.Within.{All-single}
use Rattle.fabric_model.proofs.Signals.{IsSignalThere, signal-there, item-at}
use Rattle.fabric_model.proofs.Facts.{has-left, has-right, has-some, has-source}
use Rattle.fabric_module.specs.Names.{register_name, wire_name}
use Rattle.fabric_module.specs.Rights.{input_atom, atom_or_0, port_atoms, input_name, read_at, register_at, signal_atom, table_atom, lut_of, driven_wire, setting_wire, register_right, right_alone, right_of}
use Rattle.fabric_module.proofs.Lists.{value_in-front, item-there}
use Rattle.fabric_module.proofs.Rights.{IsPlaceIn}

-- a use that is allowed
pub record IsFine (scope : Scope) (used : Use) : Type 0 where
  pub named : IsName (used_name used)
  pub in_range : IsInRange used
  pub known : IsTrue (is_known scope used)
  pub first : IsTrue (is_first scope used)

-- an item all of whose uses are
pub fine-allowed : (scope : Scope) (item : Item) → IsShaped item → scope.section ≤ section_of item → All (IsFine scope) (uses_of item) → IsAllowed scope item
fine-allowed scope item shaped ordered fine = record {
  shaped = shaped;
  ordered = ordered;
  named = All-weaker (IsFine scope) (λ used. IsName (used_name used)) (λ used is. is.named) (uses_of item) fine;
  in_range = All-weaker (IsFine scope) IsInRange (λ used is. is.in_range) (uses_of item) fine;
  known = All-weaker (IsFine scope) (λ used. IsTrue (is_known scope used)) (λ used is. is.known) (uses_of item) fine;
  first = All-weaker (IsFine scope) (λ used. IsTrue (is_first scope used)) (λ used is. is.first) (uses_of item) fine;
}

-- a name that is a name, and that is declared as that
pub record IsThere (scope : Scope) (name : List ℕ) (as_sort : Sort) : Type 0 where
  pub named : IsName name
  pub declared : value_in scope.declared name ≡ Some as_sort

-- a name that is a name, and that can be a clock
pub record IsClockThere (scope : Scope) (name : List ℕ) : Type 0 where
  pub named : IsName name
  pub known : IsTrue (is_clock (sort_in scope.declared name))

-- an input can be a clock, and so can a register of one bit
pub input-clock : (scope : Scope) (name : List ℕ) → IsThere scope name sort.Input → IsClockThere scope name
input-clock scope name there = record { named = there.named; known = rw (there.declared) refl }

pub register-clock : (scope : Scope) (name : List ℕ) → IsThere scope name sort.Register → IsClockThere scope name
register-clock scope name there = record { named = there.named; known = rw (there.declared) refl }

-- what is declared: inputs and read registers by their places, registers, and the wires of some classes
pub record Knows (fabric : Fabric) (scope : Scope) (wired : ℕ → Bool) : Type 0 where
  pub input : (place : ℕ) → place < length (inputs_of fabric) → IsThere scope (input_name fabric place) sort.Input
  pub register : (register : Register) → Contains fabric.registers register → IsThere scope (register_name register) sort.Register
  pub read : (place : ℕ) → place < length fabric.rams → IsThere scope (read_at fabric place) sort.Word
  pub wire : (class : ℕ) → wired class ≡ true → IsThere scope (wire_name class) sort.Wire

-- it stays if more is declared
pub there-more : (old new : Scope) (more : List (List ℕ × Sort)) (name : List ℕ) (as_sort : Sort) → new.declared ≡ old.declared ++ more → IsThere old name as_sort → IsThere new name as_sort
there-more old new more name as_sort is there = record {
  named = there.named;
  declared = ap (λ list. value_in list name) is ∙ value_in-front old.declared more name as_sort there.declared;
}

-- ---- what right sides use

-- what holds of all that the right sides of a fabric's drivers use, where some classes have wires
pub record Allows (fabric : Fabric) (wired : ℕ → Bool) (P : Use → Type 0) : Type 0 where
  pub input : (place : ℕ) → place < length (inputs_of fabric) → P (Reads (input_name fabric place))
  pub wire : (class : ℕ) → wired class ≡ true → P (Reads (wire_name class))
  pub register : (register : Register) → Contains fabric.registers register → setting_wire fabric register ≡ None → P (Reads (register_name register))
  pub read : (ram bit : ℕ) → ram < length fabric.rams → bit ≤ 15 → P (ReadsBit (read_at fabric ram) bit)
  pub reset : (class : ℕ) → wired class ≡ true → P (Takes sort.Wire (wire_name class))
  pub choice : (register : Register) (wire : List ℕ) → Contains fabric.registers register → setting_wire fabric register ≡ Some wire
      → P (Chooses wire register.«set» (register_name register))

module _ (fabric : Fabric) (wired : ℕ → Bool) where
  abbrev pub IsWired : Option ℕ → Type 0
  IsWired net = (n : ℕ) → net ≡ Some n → is_connected fabric n ≡ true → wired (class_of fabric.joins n) ≡ true

  abbrev pub ReadsWired : Rule → Type 0
  ReadsWired rule = (n : ℕ) → has (nets_read rule) n ≡ true → is_connected fabric n ≡ true → wired (class_of fabric.joins n) ≡ true

  driven-class : (net : Option ℕ) (wire : List ℕ) → IsWired net → driven_wire fabric net ≡ Some wire → (class : ℕ) × (wire ≡ wire_name class) × (wired class ≡ true)
  driven-class None wire wires is = absurd cc
  driven-class (Some n) wire wires is =
      elim (cases_Bool (is_connected fabric n)) [
        | inl here ↦
            let found : Some (wire_name (class_of fabric.joins n)) ≡ Some wire = rw here at is in
            let same : wire ≡ wire_name (class_of fabric.joins n) = cc in
            (class_of fabric.joins n, same, wires n refl here)
        | inr away ↦ let never : None ≡ Some wire = rw away at is in absurd cc
      ]

  -- the wire of a register's asynchronous set or reset is that of a class of joined nets that the register's driver reads
  pub setting-class : (place : ℕ) (register : Register) (wire : List ℕ) → ReadsWired (register_bit place register) → setting_wire fabric register ≡ Some wire
      → (class : ℕ) × (wire ≡ wire_name class) × (wired class ≡ true)
  unfolding nets_read
  setting-class place register wire wires is =
      elim (cases_Bool register.is_async) [
        | inl acts ↦ driven-class register.sr wire (λ n found. wires n (rw acts (has-some register.sr n found))) (rw acts at is)
        | inr waits ↦ let never : None ≡ Some wire = rw waits at is in absurd cc
      ]

  module _ (P : Use → Type 0) (allows : Allows fabric wired P) where
    -- the atom of an input
    pub atom-fine : (stated : Bool) (net : Option ℕ) → IsWired net → All P (atom_uses (input_atom fabric stated net))
    unfolding input_atom
    atom-fine stated None wires = All-nil P
    atom-fine stated (Some n) wires =
        elim (cases_Bool (is_connected fabric n)) [
          | inl here ↦ rw here (All-single P (Reads (wire_name (class_of fabric.joins n))) (allows.wire (class_of fabric.joins n) (wires n refl here)))
          | inr away ↦ rw away (All-nil P)
        ]

    -- a list of atoms
    pub atoms-fine : (atoms : List Atom) → All (λ atom. All P (atom_uses atom)) atoms → All P (atoms_uses atoms)
    atoms-fine [] all = All-nil P
    atoms-fine (atom ∷ atoms) all =
        All-append P (atoms_uses atoms) (atom_uses atom) (atoms-fine atoms (All-tail (λ a. All P (atom_uses a)) atom atoms all)) (All-head (λ a. All P (atom_uses a)) atom atoms all)

    -- the atoms of a list of ports
    pub ports-fine : (ports : List (Option ℕ)) → ((net : Option ℕ) → IsWired net) → All P (atoms_uses (port_atoms fabric ports))
    ports-fine [] wires = All-nil P
    ports-fine (net ∷ ports) wires =
        All-append P (atoms_uses (port_atoms fabric ports)) (atom_uses (atom_or_0 fabric net)) (ports-fine ports wires) (atom-fine false net (wires net))

    alone-uses : (atom : Atom) → right_uses (right_alone atom) ≡ atom_uses atom
    alone-uses (Bit bit) = refl
    alone-uses (Whole name) = refl
    alone-uses (Part name k) = refl

    -- what an input reads
    pub signal-fine : (source : Signal) → IsSignalThere fabric source
        → ((n : ℕ) → has (signal_nets source) n ≡ true → is_connected fabric n ≡ true → wired (class_of fabric.joins n) ≡ true) → All P (atom_uses (signal_atom fabric source))
    signal-fine (signal.Net net otherwise) there wires = atom-fine otherwise net (λ n found. wires n (has-some net n found))
    signal-fine (signal.Input place) there wires = All-single P (Reads (input_name fabric place)) (allows.input place there)
    signal-fine (signal.Register place) there wires =
        let at = item-at fabric.registers place there.0 in
        let steady : at.0.is_async ≡ false = sym (at.1.tested (λ register. register.is_async)) ∙ there.1 in
        let unset : setting_wire fabric at.0 ≡ None = rw steady refl in
        All-single P (Reads (register_at fabric place)) (subst (λ name. P (Reads name)) (sym (at.1.named register_name)) (allows.register at.0 at.1.there unset))

    table_atom-fine : (table : LutTable) (k : ℕ) → IsPlaceIn fabric (table_entry table) → ReadsWired (table_entry table) → All P (atom_uses (table_atom fabric table k))
    unfolding nets_read
    table_atom-fine table k there wires =
        signal-fine (get_or table.ins k (net_or_0 None)) (signal-there fabric table.ins k there) (λ n found. wires n (has-source table.ins k n found))

    -- a table
    pub table-fine : (table : LutTable) → IsPlaceIn fabric (table_entry table) → ReadsWired (table_entry table) → All P (lut_uses (lut_of fabric table))
    table-fine table there wires =
        let uses = λ (k : ℕ). atom_uses (table_atom fabric table k) in
        All-append P (atoms_uses (table_atom fabric table 1 ∷ table_atom fabric table 2 ∷ table_atom fabric table 3 ∷ [])) (uses 0)
        (All-append P (atoms_uses (table_atom fabric table 2 ∷ table_atom fabric table 3 ∷ [])) (uses 1)
        (All-append P (atoms_uses (table_atom fabric table 3 ∷ [])) (uses 2)
        (All-append P [] (uses 3) (All-nil P) (table_atom-fine table 3 there wires)) (table_atom-fine table 2 there wires)) (table_atom-fine table 1 there wires)) (table_atom-fine table 0 there wires)

    majority-fine : (a b c : Option ℕ) → ReadsWired (majority_of a b c) → All P (right_uses (right_of fabric (majority_of a b c)))
    unfolding right_of nets_read
    majority-fine a b c wires =
        let first = option_to_list a in
        let second = option_to_list b in
        let third = option_to_list c in
        let of_a = atom-fine false a (λ n found. wires n (has-left first (second ++ third) n (has-some a n found))) in
        let of_b = atom-fine false b (λ n found. wires n (has-right first (second ++ third) n (has-left second third n (has-some b n found)))) in
        let of_c = atom-fine false c (λ n found. wires n (has-right first (second ++ third) n (has-right second third n (has-some c n found)))) in
        All-append P (atom_uses (atom_or_0 fabric a) ++ atom_uses (atom_or_0 fabric b)) (atom_uses (atom_or_0 fabric c))
        (All-append P (atom_uses (atom_or_0 fabric a)) (atom_uses (atom_or_0 fabric b)) of_a of_b) of_c

    -- a register by the wire that sets it at once, if there is one
    register-fine : (place : ℕ) (register : Register) → Contains fabric.registers register → ReadsWired (register_bit place register)
        → (wire : Option (List ℕ)) → setting_wire fabric register ≡ wire → All P (right_uses (register_right register wire))
    register-fine place register there wires None is = All-single P (Reads (register_name register)) (allows.register register there is)
    register-fine place register there wires (Some wire) is =
        let found = setting-class place register wire wires is in
        All-cons P (Takes sort.Wire wire) (Chooses wire register.«set» (register_name register) ∷ [])
        (subst (λ name. P (Takes sort.Wire name)) (sym found.1) (allows.reset found.0 found.2))
        (All-single P (Chooses wire register.«set» (register_name register)) (allows.choice register wire there is))

    -- the right side of a driver
    pub right-fine : (rule : Rule) → IsPlaceIn fabric rule → ReadsWired rule → All P (right_uses (right_of fabric rule))
    unfolding right_of nets_read
    right-fine (pin_bit place) there wires = All-single P (Reads (input_name fabric place)) (allows.input place there)
    right-fine (constant bit) there wires = All-nil P
    right-fine (input source) there wires = subst (All P) (sym (alone-uses (signal_atom fabric source))) (signal-fine source there wires)
    right-fine (table_entry table) there wires = table-fine table there wires
    right-fine (majority_of a b c) there wires = majority-fine a b c wires
    right-fine (register_bit place register) there wires =
        register-fine place register (item-there fabric.registers (place, register) there) wires (setting_wire fabric register) refl
    right-fine (read_bit ram bit) there wires = All-single P (ReadsBit (read_at fabric ram) bit) (allows.read ram bit there.0 there.1)
    right-fine (copied net) there wires =
        subst (All P) (sym (alone-uses (atom_or_0 fabric (Some net)))) (atom-fine false (Some net) (λ n found. wires n (has-some (Some net) n found)))

-- what is declared is what right sides may use
pub knows-allows : (fabric : Fabric) (scope : Scope) (wired : ℕ → Bool) → Knows fabric scope wired → Allows fabric wired (IsFine scope)
knows-allows fabric scope wired knows = record {
  input = λ place within. let there = knows.input place within in record { named = there.named; in_range = tt; known = rw (there.declared) refl; first = refl };
  wire = λ class passes. let there = knows.wire class passes in record { named = there.named; in_range = tt; known = rw (there.declared) refl; first = refl };
  register = λ register among none. let there = knows.register register among in record { named = there.named; in_range = tt; known = rw (there.declared) refl; first = refl };
  read = λ ram bit within few. let there = knows.read ram within in record { named = there.named; in_range = few; known = rw (there.declared) refl; first = refl };
  reset = λ class passes. let there = knows.wire class passes in record { named = there.named; in_range = tt; known = rw (there.declared) refl; first = refl };
  choice = λ register wire among found. let there = knows.register register among in record { named = there.named; in_range = tt; known = rw (there.declared) refl; first = refl };
}
