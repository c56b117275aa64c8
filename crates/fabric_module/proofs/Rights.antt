-- The right-hand side that is written for a driver has the driver's value, if pins, state and the wires that it reads have theirs.
use Rattle.std.proofs.Common.{◌≡◌, ℕ, ◌<◌, ◌≤◌, Bool, true, false, List, [], ◌++◌, length, get_or, refl, sym, ap, ◌∙◌, ◌⊎◌, inl, inr}
use Rattle.std.specs.Prelude.{All, Contains, Option, Some, None, option_to_list, ◌&&◌, if◌then◌else◌}
use Rattle.std.proofs.lemmas.Bool.{cases_Bool}
use Rattle.bit_plane.specs.BitList.{word_of}
use Rattle.vlog_module.specs.declared.atoms.Atom.{Atom}
use Rattle.vlog_module.specs.declared.atoms.Atom.TheVariants.{Bit, Whole, Part}
use Rattle.vlog_module.specs.Maps.{value_in}
use Rattle.vlog_semantics.specs.Values.{Readable, atom_value, right_value}
use Rattle.fabric_model.specs.declared.signal.Signal.{Signal}
use Rattle.fabric_model.specs.declared.signal.Signal.TheVariants as signal
use Rattle.fabric_model.specs.declared.register.LutTable.{LutTable}
use Rattle.fabric_model.specs.declared.register.Register.{Register}
use Rattle.fabric_model.specs.Joins.{class_of}
use Rattle.fabric_model.specs.Fabric.{Fabric, numbered, inputs_of}
use Rattle.fabric_model.specs.Signals.{net_or_0, signal_nets}
use Rattle.fabric_model.specs.Drivers.{Rule, Drive, drives_of, drivers_of, is_driven, nets_read}
use Rattle.fabric_model.specs.Drivers.Rule.{pin_bit, constant, input, table_entry, majority_of, register_bit, read_bit, copied}
use Rattle.fabric_model.specs.Values.{State, input_value, input_or_0, signal_value, table_input, lut_value, settled_bit, value_of, bit_in, is_connected, IsConsistent}
use Rattle.graph_order.specs.Wiring.{has, depends}
use Rattle.fabric_model.specs.Wiring.{wiring_of}
use Rattle.fabric_model.proofs.Signals.{IsSignalThere, signal-there, item-at}
use Rattle.fabric_model.proofs.Joins.{class_of-class}
use Rattle.fabric_model.proofs.Facts.{has-left, has-right, has-some, has-source}
use Rattle.fabric_model.proofs.OneValue.{IsWithin, first-driver, first-is, first-class, first-reads, net-bit, class_bit, class-still}
use Rattle.fabric_module.specs.Names.{register_name, wire_name}
use Rattle.fabric_module.specs.Rights.{input_atom, atom_or_0, input_name, read_at, signal_atom, table_atom, driven_wire, setting_wire, register_right, right_alone, right_of, right_by, class_right}
use Rattle.fabric_module.proofs.Bits.{bit_of-word_of, table-entry, majority-same}

-- what a driver reads is there: its input pins, registers or RAM are those of the fabric
abbrev pub IsPlaceIn : Fabric → Rule → Type 0
IsPlaceIn fabric (pin_bit place) = place < length (inputs_of fabric)
IsPlaceIn fabric (input source) = IsSignalThere fabric source
IsPlaceIn fabric (table_entry table) = All (IsSignalThere fabric) table.ins
IsPlaceIn fabric (register_bit place register) = Contains (numbered fabric.registers) (place, register)
IsPlaceIn fabric (read_bit ram bit) = (ram < length fabric.rams) × (bit ≤ 15)
IsPlaceIn fabric rule = Unit {0}

-- what names have: those of pins and state their values, and those of some wires too
pub record Gives (fabric : Fabric) (state : State) (pins v : List Bool) (wired : ℕ → Bool) (from : Readable) : Type 0 where
  pub pin : (place : ℕ) → place < length (inputs_of fabric) → value_in from.bits (input_name fabric place) ≡ Some (get_or pins place false)
  pub register : (place : ℕ) (register : Register) → Contains (numbered fabric.registers) (place, register)
      → value_in from.bits (register_name register) ≡ Some (get_or state.bits place false)
  pub read : (place : ℕ) → place < length fabric.rams → value_in from.words (read_at fabric place) ≡ Some (word_of (get_or state.reads place []))
  pub wire : (class : ℕ) → wired class ≡ true → value_in from.bits (wire_name class) ≡ Some (bit_in v class)

right-alone : (from : Readable) (atom : Atom) → right_value from (right_alone atom) ≡ atom_value from atom
right-alone from (Bit bit) = refl
right-alone from (Whole name) = refl
right-alone from (Part name k) = refl

-- a bit, but for the time in which a wire is 1, when it is what the register is set to
abbrev pub unless_set : Readable → Register → Option (List ℕ) → Bool → Bool
unless_set from register (Some wire) bit = if atom_value from (Whole wire) then register.«set» else bit
unless_set from register None bit = bit

right-unless : (from : Readable) (register : Register) (wire : Option (List ℕ))
    → right_value from (register_right register wire) ≡ unless_set from register wire (atom_value from (Whole (register_name register)))
right-unless from register (Some wire) = refl
right-unless from register None = refl

-- the reset of a register doesn't act at once, or is 0
pub record IsUnset (fabric : Fabric) (v : List Bool) (register : Register) : Type 0 where
  pub none : setting_wire fabric register ≡ None
  pub idle : (register.is_async && input_or_0 (is_connected fabric) (bit_in v) register.sr) ≡ false

-- or it acts at once and has the value of this wire
pub record IsSetBy (fabric : Fabric) (v : List Bool) (from : Readable) (register : Register) (wire : List ℕ) : Type 0 where
  pub found : setting_wire fabric register ≡ Some wire
  pub acts : register.is_async ≡ true
  pub value : atom_value from (Whole wire) ≡ input_or_0 (is_connected fabric) (bit_in v) register.sr

module _ (fabric : Fabric) (within : IsWithin fabric) (state : State) (pins v : List Bool) (is : IsConsistent fabric state pins v) where
  -- a net has the bit of its class
  pub class-bit : (net : ℕ) → bit_in v net ≡ bit_in v (class_of fabric.joins net)
  class-bit net =
      net-bit fabric within state pins v is net
      ∙ (ap (λ class. class_bit fabric within state pins v class) (sym (class_of-class fabric.joins net)) ∙ sym (net-bit fabric within state pins v is (class_of fabric.joins net)))

  pub still-bit : (net : ℕ) → is_connected fabric net ≡ false → bit_in v net ≡ false
  still-bit net still = net-bit fabric within state pins v is net ∙ class-still fabric within state pins v (class_of fabric.joins net) still

  module _ (wired : ℕ → Bool) (from : Readable) (gives : Gives fabric state pins v wired from) where
    -- the net, if there is one and it is connected, has a wire with its value
    abbrev IsWired : Option ℕ → Type 0
    IsWired net = (n : ℕ) → net ≡ Some n → is_connected fabric n ≡ true → wired (class_of fabric.joins n) ≡ true

    -- the atom of an input has the input's value
    pub atom-value : (stated : Bool) (net : Option ℕ) → IsWired net → atom_value from (input_atom fabric stated net) ≡ input_value (is_connected fabric) (bit_in v) stated net
    unfolding input_atom
    atom-value stated None wires = refl
    atom-value stated (Some n) wires =
        elim (cases_Bool (is_connected fabric n)) [
          | inl here ↦ rw here (rw (gives.wire (class_of fabric.joins n) (wires n refl here)) (sym (class-bit n)))
          | inr away ↦ rw away refl
        ]

    abbrev ReadsWired : Rule → Type 0
    ReadsWired rule = (n : ℕ) → has (nets_read rule) n ≡ true → is_connected fabric n ≡ true → wired (class_of fabric.joins n) ≡ true

    -- ---- tables

    pub signal-value : (source : Signal) → IsSignalThere fabric source
        → ((n : ℕ) → has (signal_nets source) n ≡ true → is_connected fabric n ≡ true → wired (class_of fabric.joins n) ≡ true)
        → atom_value from (signal_atom fabric source) ≡ signal_value (is_connected fabric) state pins (bit_in v) source
    signal-value (signal.Net net otherwise) there wires = atom-value otherwise net (λ n found. wires n (has-some net n found))
    signal-value (signal.Input place) there wires = rw (gives.pin place there) refl
    signal-value (signal.Register place) there wires =
        let at = item-at fabric.registers place there.0 in
        rw (at.1.named register_name, gives.register place at.0 at.1.numbered) refl

    table-value : (table : LutTable) (k : ℕ) → IsPlaceIn fabric (table_entry table) → ReadsWired (table_entry table)
        → atom_value from (table_atom fabric table k) ≡ table_input (is_connected fabric) state pins (bit_in v) table k
    unfolding nets_read
    table-value table k there wires =
        signal-value (get_or table.ins k (net_or_0 None)) (signal-there fabric table.ins k there) (λ n found. wires n (has-source table.ins k n found))

    pub table-written : (table : LutTable) → IsPlaceIn fabric (table_entry table) → ReadsWired (table_entry table)
        → right_value from (right_of fabric (table_entry table)) ≡ lut_value (is_connected fabric) state pins (bit_in v) table
    unfolding right_of lut_value
    table-written table there wires =
        rw (table-value table 0 there wires, table-value table 1 there wires, table-value table 2 there wires, table-value table 3 there wires)
        (table-entry table.word (table_input (is_connected fabric) state pins (bit_in v) table 0) (table_input (is_connected fabric) state pins (bit_in v) table 1)
        (table_input (is_connected fabric) state pins (bit_in v) table 2) (table_input (is_connected fabric) state pins (bit_in v) table 3))

    majority-written : (a b c : Option ℕ) → ReadsWired (majority_of a b c)
        → right_value from (right_of fabric (majority_of a b c)) ≡ value_of (is_connected fabric) state pins (bit_in v) (majority_of a b c)
    unfolding right_of value_of nets_read
    majority-written a b c wires =
        let first = option_to_list a in
        let second = option_to_list b in
        let third = option_to_list c in
        let of_a = atom-value false a (λ n found. wires n (has-left first (second ++ third) n (has-some a n found))) in
        let of_b = atom-value false b (λ n found. wires n (has-right first (second ++ third) n (has-left second third n (has-some b n found)))) in
        let of_c = atom-value false c (λ n found. wires n (has-right first (second ++ third) n (has-right second third n (has-some c n found)))) in
        rw (of_a, of_b, of_c)
        (majority-same (input_value (is_connected fabric) (bit_in v) false a) (input_value (is_connected fabric) (bit_in v) false b)
        (input_value (is_connected fabric) (bit_in v) false c))

    -- ---- registers

    driven-value : (net : Option ℕ) → IsWired net
        → ((driven_wire fabric net ≡ None) × (input_or_0 (is_connected fabric) (bit_in v) net ≡ false))
        ⊎ ((wire : List ℕ) × (driven_wire fabric net ≡ Some wire) × (atom_value from (Whole wire) ≡ input_or_0 (is_connected fabric) (bit_in v) net))
    driven-value None wires = inl (refl, refl)
    driven-value (Some n) wires =
        elim (cases_Bool (is_connected fabric n)) [
          | inl here ↦
              let value : atom_value from (Whole (wire_name (class_of fabric.joins n))) ≡ input_or_0 (is_connected fabric) (bit_in v) (Some n) =
              rw (here, gives.wire (class_of fabric.joins n) (wires n refl here)) (sym (class-bit n)) in
              inr (wire_name (class_of fabric.joins n), rw here refl, value)
          | inr away ↦ inl (rw away refl, rw away refl)
        ]

    -- what sets a register at once
    pub setting : (place : ℕ) (register : Register) → ReadsWired (register_bit place register)
        → IsUnset fabric v register ⊎ ((wire : List ℕ) × IsSetBy fabric v from register wire)
    unfolding nets_read
    setting place register wires =
        elim (cases_Bool register.is_async) [
          | inl acts ↦
              elim (driven-value register.sr (λ n found. wires n (rw acts (has-some register.sr n found)))) [
                | inl away ↦ inl (record { none = rw acts away.0; idle = rw (acts, away.1) refl })
                | inr by ↦ inr (by.0, record { found = rw acts by.1; acts = acts; value = by.2 })
              ]
          | inr waits ↦ inl (record { none = rw waits refl; idle = rw waits refl })
        ]

    -- the bit that a register settles to
    pub unless-settles : (place : ℕ) (register : Register) (bit : Bool) → ReadsWired (register_bit place register)
        → unless_set from register (setting_wire fabric register) bit ≡ settled_bit (is_connected fabric) (bit_in v) register bit
    unfolding settled_bit
    unless-settles place register bit wires =
        elim (setting place register wires) [
          | inl unset ↦ ap (λ wire. unless_set from register wire bit) unset.none ∙ (rw unset.idle refl)
          | inr by ↦
              let is_set = by.1 in
              ap (λ wire. unless_set from register wire bit) is_set.found ∙ (rw (is_set.acts, is_set.value) refl)
        ]

    register-written : (place : ℕ) (register : Register) → IsPlaceIn fabric (register_bit place register) → ReadsWired (register_bit place register)
        → right_value from (right_of fabric (register_bit place register)) ≡ settled_bit (is_connected fabric) (bit_in v) register (get_or state.bits place false)
    unfolding right_of
    register-written place register there wires =
        let bit : atom_value from (Whole (register_name register)) ≡ get_or state.bits place false = rw (gives.register place register there) refl in
        right-unless from register (setting_wire fabric register)
        ∙ (ap (unless_set from register (setting_wire fabric register)) bit ∙ unless-settles place register (get_or state.bits place false) wires)

    -- ---- drivers

    read-written : (ram bit : ℕ) → ram < length fabric.rams
        → right_value from (right_of fabric (read_bit ram bit)) ≡ get_or (get_or state.reads ram []) bit false
    unfolding right_of
    read-written ram bit there = rw (gives.read ram there) (bit_of-word_of (get_or state.reads ram []) bit)

    copied-written : (net : ℕ) → ReadsWired (copied net) → right_value from (right_of fabric (copied net)) ≡ bit_in v net
    unfolding right_of nets_read
    copied-written net wires =
        right-alone from (atom_or_0 fabric (Some net))
        ∙ (atom-value false (Some net) (λ n found. wires n (has-some (Some net) n found))
        ∙ elim (cases_Bool (is_connected fabric net)) [
          | inl here ↦ rw here refl
          | inr away ↦ rw away (sym (still-bit net away))
        ])

    -- the right side has the driver's value
    pub right-written : (rule : Rule) → IsPlaceIn fabric rule → ReadsWired rule
        → right_value from (right_of fabric rule) ≡ value_of (is_connected fabric) state pins (bit_in v) rule
    unfolding right_of value_of nets_read
    right-written (pin_bit place) there wires = rw (gives.pin place there) refl
    right-written (constant bit) there wires = refl
    right-written (input source) there wires = right-alone from (signal_atom fabric source) ∙ signal-value source there wires
    right-written (table_entry table) there wires = table-written table there wires
    right-written (majority_of a b c) there wires = majority-written a b c wires
    right-written (register_bit place register) there wires = register-written place register there wires
    right-written (read_bit ram bit) there wires = read-written ram bit there.0
    right-written (copied net) there wires = copied-written net wires

    -- and that of a class with a driver has the class's value
    pub class-written : (class : ℕ) → ((drive : Drive) → Contains (drives_of fabric) drive → IsPlaceIn fabric drive.rule) → is_driven fabric class ≡ true
        → ((other : ℕ) → depends (wiring_of fabric) class other ≡ true → is_driven fabric other ≡ true → wired other ≡ true)
        → right_value from (class_right fabric class) ≡ bit_in v class
    unfolding class_right
    class-written class places driven wires =
        let found = first-driver fabric class driven in
        let drivers = first-is fabric class found.0 found.1 found.2 in
        let right : right_value from (right_by fabric (drivers_of fabric class)) ≡ right_value from (right_of fabric found.0.rule) =
        ap (λ list. right_value from (right_by fabric list)) drivers in
        let value = right-written found.0.rule (places found.0 found.2.there) (λ n reads connected.
        wires (class_of fabric.joins n) (first-reads fabric class found.0 found.1 drivers n reads) connected) in
        let of_class : bit_in v found.0.net ≡ bit_in v class =
        class-bit found.0.net ∙ ap (bit_in v) (first-class fabric class found.0 found.1 found.2) in
        right ∙ (value ∙ (sym (is.driven found.0 found.2.there) ∙ of_class))
