-- The wires, registers and outputs of a module once they have settled, if its inputs, registers and memories hold what the fabric's
-- pins are and what its state was before it settled.
use Rattle.std.proofs.Common.{◌≡◌, ℕ, ◌^◌, ◌<◌, ◌≤◌, Bool, true, false, List, [], ◌∷◌, ◌++◌, length, map, get_or, fold, refl, sym, ap, ◌∙◌, subst, arith, inl, inr, append_assoc, append-nil}
use Rattle.std.specs.Prelude.{All, Contains, Option, Some, None, flat_map, bytes_eq, codes, decimal}
use Rattle.std.proofs.lemmas.Bool.{cases_Bool}
use Rattle.std.proofs.lemmas.Fmt.{decimal_injective}
use Rattle.std.proofs.lemmas.List.Elements.{All-nil, All-cons, All-head, All-tail, All-append, All-map, All-contains, All-push, All-weaker}
use Rattle.std.proofs.lemmas.List.Concat.{flat_map_single}
use Rattle.std.proofs.lemmas.List.{map-append}
use Rattle.std.proofs.Math.ListN.{get_or-map}
use Rattle.shared_lemmas.proofs.Lists.{map-same, map-every}
use Rattle.shared_lemmas.proofs.Bytes.{same_bytes, bytes_eq-same}
use Rattle.bit_plane.specs.BitList.{word_of}
use Rattle.vlog_module.specs.declared.atoms.Atom.TheVariants.{Whole}
use Rattle.vlog_module.specs.declared.item.Item.TheVariants.{Register as RegisterItem, Word, Memory, Wire, Assign, FlipFlop, AsyncFlipFlop, AsyncReset, Read, ReadNarrow, Write, WriteNarrow, Start}
use Rattle.vlog_module.specs.Maps.{value_in}
use Rattle.vlog_semantics.specs.Named.{names_of, values_of}
use Rattle.vlog_semantics.specs.Values.{Readable, atom_value, right_value}
use Rattle.vlog_semantics.specs.Run.{output_start, wire_step, settle_step, output_step, settled}
use Rattle.fabric_model.specs.declared.register.Register.{Register}
use Rattle.fabric_model.specs.Fabric.{Fabric, numbered, inputs_of}
use Rattle.fabric_model.specs.Outputs.{Output, outputs_of}
use Rattle.fabric_model.proofs.Apart.{apart-numbered}
use Rattle.fabric_model.specs.declared.signal.Signal.{Signal}
use Rattle.fabric_model.specs.Drivers.{Drive, drives_of, is_driven}
use Rattle.fabric_model.specs.Values.{State, settled_bit, signal_value, bit_in, is_connected, IsConsistent}
use Rattle.fabric_model.specs.Steps.{Entry, settled_bits, settled_state, output_values, IsEntry}
use Rattle.graph_order.specs.Wiring.{has, IsWriteOrder}
use Rattle.fabric_model.specs.Wiring.{clocked_wiring}
use Rattle.graph_order.proofs.OneOrder.{has-none, has-first, has-cases, Continues, order-continues}
use Rattle.graph_order.proofs.OneOrder.Continues.{whole, next}
use Rattle.fabric_model.proofs.Facts.{has-left, has-right}
use Rattle.fabric_model.proofs.Signals.{IsSignalThere, HasSignals}
use Rattle.fabric_model.proofs.Settling.{outputs-have, consistent-unsettled}
use Rattle.fabric_model.proofs.OneValue.{IsWithin, driven-is, driven-below}
use Rattle.fabric_model.proofs.Clocking.{clocked-count, clocked-driven, clocked-ready}
use Rattle.fabric_module.specs.Names.{input_port_name, output_name, register_name, read_name, memory_name, wire_name}
use Rattle.fabric_module.specs.Rights.{signal_atom, input_name, read_at, setting_wire, class_right}
use Rattle.fabric_module.specs.Written.{class_wire, output_assign, items_by, register_items, items_of, module_of}
use Rattle.fabric_module.specs.Matching.{HasValues, HasWires, Matches}
use Rattle.fabric_module.proofs.Lists.{NamesDiffer, Apart, flat_map-numbered, entries-are, made-names, made-values, place-there, name-there, value_in-front, value_in-after, value_in-at, names-absent, map-map}
use Rattle.fabric_module.proofs.Sections.{Skips, fold-section, wires-section, assigns-section, flips-section}
use Rattle.fabric_module.proofs.Fills.{FillsOwn, filled}
use Rattle.fabric_module.proofs.Apart.{input-no_register, input-no_wire, register-no_wire}
use Rattle.fabric_module.proofs.Ports.{ports_of, port_label, inputs-apart, outputs-apart, outputs-start}
use Rattle.fabric_module.proofs.Rights.{IsPlaceIn, Gives, signal-value, unless_set, unless-settles, class-written}

-- ---- premises

-- The fabric can be written: its classes are numbers that names can have, its drivers and tables name pins, registers and RAMs that
-- it has, and no two of its parts have one name.
pub record IsWritable (fabric : Fabric) : Type 0 where
  pub few : fabric.nets ≤ 2 ^ 64
  pub places : (drive : Drive) → Contains (drives_of fabric) drive → IsPlaceIn fabric drive.rule
  pub tables : All (HasSignals fabric) fabric.registers
  pub ports : Apart port_label (ports_of fabric)
  pub registers : Apart register_name fabric.registers
  pub reads : Apart read_name fabric.rams
  pub memories : Apart memory_name fabric.rams

-- ---- names of wires

pub wire-one : (a b : ℕ) → a < 2 ^ 64 → b < 2 ^ 64 → bytes_eq (wire_name a) (wire_name b) ≡ true → a ≡ b
unfolding wire_name
wire-one a b of_a of_b same =
    let names : codes "n_" ++ decimal a ≡ codes "n_" ++ decimal b = same_bytes (codes "n_" ++ decimal a) (codes "n_" ++ decimal b) same in
    let numbers : decimal a ≡ decimal b = cc in
    decimal_injective a b of_a of_b numbers

-- ---- wires

-- the wire of a class with its value
abbrev pub wire_of : List Bool → ℕ → List ℕ × Bool
wire_of v class = (wire_name class, bit_in v class)

-- a class that has a wire has its value there
wires-value : (v : List Bool) (front : List ℕ) (class : ℕ) → All (λ c. c < 2 ^ 64) front → class < 2 ^ 64 → has front class ≡ true
    → value_in (map (wire_of v) front) (wire_name class) ≡ Some (bit_in v class)
wires-value v [] class small low listed = absurd (has-none class listed)
wires-value v (first ∷ front) class small low listed =
    elim (cases_Bool (bytes_eq (wire_name first) (wire_name class))) [
      | inl here ↦
          let same : first ≡ class = wire-one first class (All-head (λ c. c < 2 ^ 64) first front small) low here in
          rw here (ap (λ c. Some (bit_in v c)) same)
      | inr away ↦ rw away (wires-value v front class (All-tail (λ c. c < 2 ^ 64) first front small) low (elim (has-cases first front class listed) [
        | inl same ↦ let never : true ≡ false = sym (bytes_eq-same (wire_name first) (wire_name class) (ap wire_name same)) ∙ away in absurd cc
        | inr following ↦ following
      ]))
    ]

-- inputs, registers and words that hold the pins and the state
pub record Holding (fabric : Fabric) (state : State) (pins : List Bool) (inputs registers : List (List ℕ × Bool)) (words : List (List ℕ × ℕ)) : Type 0 where
  pub input : HasValues inputs (map input_port_name (inputs_of fabric)) pins
  pub register : HasValues registers (map register_name fabric.registers) state.bits
  pub word : HasValues words (map read_name fabric.rams) (map word_of state.reads)

-- the number of a word among words
pub word-pick : (words : List (List Bool)) (place : ℕ) → get_or (map word_of words) place 0 ≡ word_of (get_or words place [])
unfolding word_of
word-pick words place = get_or-map word_of words place []

-- one more class is listed
more-listed : (before front : List ℕ) (class : ℕ) → ((k : ℕ) → has before k ≡ true → (has front k ≡ true) × (k < 2 ^ 64)) → class < 2 ^ 64
    → (k : ℕ) → has (class ∷ before) k ≡ true → (has (front ++ class ∷ []) k ≡ true) × (k < 2 ^ 64)
more-listed before front class listed low k found =
    elim (has-cases class before k found) [
      | inl here ↦ (has-right front (class ∷ []) k (subst (λ c. has (class ∷ []) c ≡ true) here (has-first class [])), subst (λ c. c < 2 ^ 64) here low)
      | inr following ↦ let old = listed k following in (has-left front (class ∷ []) k old.0, old.1)
    ]

wire-skips : (known : List (List ℕ × Bool)) (words : List (List ℕ × ℕ)) → Skips 5 (wire_step known words)
wire-skips known words (RegisterItem name start) away given = refl
wire-skips known words (Word name start) away given = refl
wire-skips known words (Memory name) away given = refl
wire-skips known words (Wire name right) away given = absurd cc
wire-skips known words (Assign name value) away given = refl
wire-skips known words (FlipFlop falling clock enable reset set target lut) away given = refl
wire-skips known words (AsyncFlipFlop falling clock reset set target enable lut) away given = refl
wire-skips known words (AsyncReset reset set target) away given = refl
wire-skips known words (Read falling clock clock_enable enable target memory address) away given = refl
wire-skips known words (ReadNarrow falling clock clock_enable enable target memory address shift pattern) away given = refl
wire-skips known words (Write falling clock clock_enable enable memory address mask bits) away given = refl
wire-skips known words (WriteNarrow falling clock clock_enable enable memory address pattern shift bits) away given = refl
wire-skips known words (Start memory k word) away given = refl

output-skips : (from : Readable) → Skips 6 (output_step from)
output-skips from (RegisterItem name start) away given = refl
output-skips from (Word name start) away given = refl
output-skips from (Memory name) away given = refl
output-skips from (Wire name right) away given = refl
output-skips from (Assign name value) away given = absurd cc
output-skips from (FlipFlop falling clock enable reset set target lut) away given = refl
output-skips from (AsyncFlipFlop falling clock reset set target enable lut) away given = refl
output-skips from (AsyncReset reset set target) away given = refl
output-skips from (Read falling clock clock_enable enable target memory address) away given = refl
output-skips from (ReadNarrow falling clock clock_enable enable target memory address shift pattern) away given = refl
output-skips from (Write falling clock clock_enable enable memory address mask bits) away given = refl
output-skips from (WriteNarrow falling clock clock_enable enable memory address pattern shift bits) away given = refl
output-skips from (Start memory k word) away given = refl

settle-skips : (from : Readable) → Skips 7 (settle_step from)
settle-skips from (RegisterItem name start) away given = refl
settle-skips from (Word name start) away given = refl
settle-skips from (Memory name) away given = refl
settle-skips from (Wire name right) away given = refl
settle-skips from (Assign name value) away given = refl
settle-skips from (FlipFlop falling clock enable reset set target lut) away given = absurd cc
settle-skips from (AsyncFlipFlop falling clock reset set target enable lut) away given = absurd cc
settle-skips from (AsyncReset reset set target) away given = absurd cc
settle-skips from (Read falling clock clock_enable enable target memory address) away given = refl
settle-skips from (ReadNarrow falling clock clock_enable enable target memory address shift pattern) away given = refl
settle-skips from (Write falling clock clock_enable enable memory address mask bits) away given = refl
settle-skips from (WriteNarrow falling clock clock_enable enable memory address pattern shift bits) away given = refl
settle-skips from (Start memory k word) away given = refl

-- the items of a register set it if its wire is 1, and leave others as they are
module _ (fabric : Fabric) (from : Readable) where
  rest-own : (register : Register) (wire clock : Option (List ℕ)) (old : Bool) (rest : List (List ℕ × Bool))
      → fold (settle_step from) ((register_name register, old) ∷ rest) (items_by fabric register wire clock) ≡ (register_name register, unless_set from register wire old) ∷ rest
  rest-own register None None old rest = refl
  rest-own register None (Some clock) old rest = refl
  rest-own register (Some wire) None old rest =
      elim (cases_Bool (atom_value from (Whole wire))) [
        | inl here ↦ rw (here, bytes_eq-same (register_name register) (register_name register) refl) refl
        | inr away ↦ rw away refl
      ]
  rest-own register (Some wire) (Some clock) old rest =
      elim (cases_Bool (atom_value from (Whole wire))) [
        | inl here ↦ rw (here, bytes_eq-same (register_name register) (register_name register) refl) refl
        | inr away ↦ rw away refl
      ]

  rest-past : (register : Register) (wire clock : Option (List ℕ)) (entry : List ℕ × Bool) (rest : List (List ℕ × Bool)) → bytes_eq entry.0 (register_name register) ≡ false
      → fold (settle_step from) (entry ∷ rest) (items_by fabric register wire clock) ≡ entry ∷ fold (settle_step from) rest (items_by fabric register wire clock)
  rest-past register None None entry rest other = refl
  rest-past register None (Some clock) entry rest other = refl
  rest-past register (Some wire) None entry rest other =
      elim (cases_Bool (atom_value from (Whole wire))) [
        | inl here ↦ rw (here, other) refl
        | inr away ↦ rw away refl
      ]
  rest-past register (Some wire) (Some clock) entry rest other =
      elim (cases_Bool (atom_value from (Whole wire))) [
        | inl here ↦ rw (here, other) refl
        | inr away ↦ rw away refl
      ]

  -- what a register settles to in the module
  abbrev pub rest_at : ℕ × Register → Bool → Bool
  rest_at place old = unless_set from place.1 (setting_wire fabric place.1) old

  rests-fill : FillsOwn (λ (place : ℕ × Register). register_name place.1) (settle_step from) (λ place. register_items fabric place.1) rest_at
  rests-fill = record {
    own = λ place old rest. rest-own place.1 (setting_wire fabric place.1) _ old rest;
    past = λ place entry rest away. rest-past place.1 (setting_wire fabric place.1) _ entry rest away;
  }

-- an assignment gives its output the value
output-fills : (fabric : Fabric) (from : Readable)
    → FillsOwn output_name (output_step from) (λ output. output_assign fabric output ∷ []) (λ output old. atom_value from (signal_atom fabric output.source))
output-fills fabric from = record {
  own = λ output old rest. rw (bytes_eq-same (output_name output) (output_name output) refl) refl;
  past = λ output entry rest away. rw away refl;
}

module _ (fabric : Fabric) (within : IsWithin fabric) (writable : IsWritable fabric) (state : State) (pins v : List Bool) (is : IsConsistent fabric state pins v)
    (inputs registers : List (List ℕ × Bool)) (words : List (List ℕ × ℕ)) (holding : Holding fabric state pins inputs registers words) where
  pin-there : (place : ℕ) → place < length (inputs_of fabric) → value_in inputs (input_name fabric place) ≡ Some (get_or pins place false)
  pin-there place there =
      value_in-at input_port_name false (inputs_of fabric) inputs place (inputs-apart fabric writable.ports) holding.input.named there
      ∙ ap (λ values. Some (get_or values place false)) holding.input.valued

  register-there : (place : ℕ) (register : Register) → Contains (numbered fabric.registers) (place, register) → value_in registers (register_name register) ≡ Some (get_or state.bits place false)
  register-there place register there =
      subst (λ name. value_in registers name ≡ Some (get_or state.bits place false)) (name-there register_name fabric.registers (place, register) there)
      (value_in-at register_name false fabric.registers registers place writable.registers holding.register.named (place-there fabric.registers (place, register) there)
      ∙ ap (λ values. Some (get_or values place false)) holding.register.valued)

  word-there : (place : ℕ) → place < length fabric.rams → value_in words (read_at fabric place) ≡ Some (word_of (get_or state.reads place []))
  word-there place there =
      value_in-at read_name 0 fabric.rams words place writable.reads holding.word.named there
      ∙ (ap (λ values. Some (get_or values place 0)) holding.word.valued ∙ ap (λ n. Some n) (word-pick state.reads place))

  -- no input has the name of a register
  inputs-no_register : (register : Register) → All (λ name. bytes_eq name (register_name register) ≡ false) (names_of inputs)
  inputs-no_register register = rw holding.input.named (names-absent input_port_name (inputs_of fabric) (register_name register) (λ port. input-no_register port register))

  -- no input or register has the name of a wire
  known-no_wire : (class : ℕ) → All (λ name. bytes_eq name (wire_name class) ≡ false) (names_of (inputs ++ registers))
  known-no_wire class =
      rw (map-append (λ (entry : List ℕ × Bool). entry.0) inputs registers, holding.input.named, holding.register.named)
      (All-append (λ name. bytes_eq name (wire_name class) ≡ false) (map input_port_name (inputs_of fabric)) (map register_name fabric.registers)
      (names-absent input_port_name (inputs_of fabric) (wire_name class) (λ port. input-no_wire port class))
      (names-absent register_name fabric.registers (wire_name class) (λ register. register-no_wire register class)))

  -- with wires that have the values of some classes
  pub gives-wires : (wires : List (List ℕ × Bool)) (wired : ℕ → Bool) → ((k : ℕ) → wired k ≡ true → value_in wires (wire_name k) ≡ Some (bit_in v k))
      → Gives fabric state pins v wired (record { bits = (inputs ++ registers) ++ wires; words = words })
  gives-wires wires wired each = record {
    pin = λ place there.
        value_in-front (inputs ++ registers) wires (input_name fabric place) (get_or pins place false)
        (value_in-front inputs registers (input_name fabric place) (get_or pins place false) (pin-there place there));
    register = λ place register there.
        value_in-front (inputs ++ registers) wires (register_name register) (get_or state.bits place false)
        (value_in-after inputs registers (register_name register) (inputs-no_register register) ∙ register-there place register there);
    read = word-there;
    wire = λ class passes. value_in-after (inputs ++ registers) wires (wire_name class) (known-no_wire class) ∙ each class passes;
  }

  -- with all wires
  pub gives-read : (wires : List (List ℕ × Bool)) → HasWires fabric v wires
      → Gives fabric state pins v (is_driven fabric) (record { bits = (inputs ++ registers) ++ wires; words = words })
  gives-read wires has_wires = gives-wires wires (is_driven fabric) has_wires.each

  gives-with : (front : List ℕ) (wired : ℕ → Bool) → All (λ c. c < 2 ^ 64) front → ((k : ℕ) → wired k ≡ true → (has front k ≡ true) × (k < 2 ^ 64))
      → Gives fabric state pins v wired (record { bits = (inputs ++ registers) ++ map (wire_of v) front; words = words })
  gives-with front wired small listed =
      gives-wires (map (wire_of v) front) wired (λ k passes. let found = listed k passes in wires-value v front k small found.1 found.0)

  class-small : (class : ℕ) → is_driven fabric class ≡ true → class < 2 ^ 64
  class-small class driven = omega (arith, driven-below fabric within class driven, writable.few)

  -- ---- wires in their order

  wires-from : {before order : List ℕ} → Continues (clocked_wiring fabric) before order → (front : List ℕ) → All (λ c. c < 2 ^ 64) front
      → ((k : ℕ) → has before k ≡ true → (has front k ≡ true) × (k < 2 ^ 64))
      → fold (wire_step (inputs ++ registers) words) (map (wire_of v) front) (map (class_wire fabric) order) ≡ map (wire_of v) (front ++ order)
  wires-from (whole all) front small listed = ap (map (wire_of v)) (sym (append-nil front))
  wires-from {before} (next {node = class} {rest} least more) front small listed =
      let ready = clocked-ready fabric (has before) class least.ready in
      let driven : is_driven fabric class ≡ true = sym (driven-is fabric class) ∙ ready.driven in
      let low : class < 2 ^ 64 = class-small class driven in
      let value = class-written fabric within state pins v is (has before) (record { bits = (inputs ++ registers) ++ map (wire_of v) front; words = words })
      (gives-with front (has before) small listed) class writable.places driven
      (λ other reads drives. ready.inputs other reads (driven-is fabric other ∙ drives)) in
      let step : map (wire_of v) front ++ (wire_name class, right_value (record { bits = (inputs ++ registers) ++ map (wire_of v) front; words = words }) (class_right fabric class)) ∷ []
      ≡ map (wire_of v) (front ++ class ∷ []) =
      ap (λ bit. map (wire_of v) front ++ (wire_name class, bit) ∷ []) value ∙ sym (map-append (wire_of v) front (class ∷ [])) in
      ap (λ list. fold (wire_step (inputs ++ registers) words) list (map (class_wire fabric) rest)) step
      ∙ (wires-from more (front ++ class ∷ []) (All-push (λ c. c < 2 ^ 64) front class small low) (more-listed before front class listed low)
      ∙ ap (map (wire_of v)) (append_assoc front (class ∷ []) rest))

  module _ (order : List ℕ) (ordered : IsWriteOrder (clocked_wiring fabric) order) where
    -- the wires of the module
    wires-are : fold (wire_step (inputs ++ registers) words) [] (items_of fabric order) ≡ map (wire_of v) order
    wires-are =
        fold-section 5 (wire_step (inputs ++ registers) words) (wire-skips (inputs ++ registers) words) [] (items_of fabric order)
        ∙ (ap (fold (wire_step (inputs ++ registers) words) []) (wires-section fabric order)
        ∙ wires-from (order-continues (clocked_wiring fabric) order ordered) [] (All-nil (λ c. c < 2 ^ 64)) (λ k listed. absurd (has-none k listed)))

    -- each class in the order has a driver
    order-driven : {before rest : List ℕ} → Continues (clocked_wiring fabric) before rest → All (λ c. is_driven fabric c ≡ true) rest
    order-driven (whole all) = All-nil (λ c. is_driven fabric c ≡ true)
    order-driven (next {node = class} {rest} least more) =
        All-cons (λ c. is_driven fabric c ≡ true) class rest (sym (clocked-driven fabric class) ∙ least.ready.driven) (order-driven more)

    all-driven : All (λ c. is_driven fabric c ≡ true) order
    all-driven = order-driven (order-continues (clocked_wiring fabric) order ordered)

    all-small : All (λ c. c < 2 ^ 64) order
    all-small = All-weaker (λ c. is_driven fabric c ≡ true) (λ c. c < 2 ^ 64) class-small order all-driven

    listed-all : (class : ℕ) → is_driven fabric class ≡ true → (has order class ≡ true) × (class < 2 ^ 64)
    listed-all class driven = (
      ordered.whole class (subst (λ n. class < n) (sym (clocked-count fabric)) (driven-below fabric within class driven)) (clocked-driven fabric class ∙ driven),
      class-small class driven,
    )

    -- the wire is that of a class with a driver, and has its value
    abbrev IsClassWire : List ℕ × Bool → Type 0
    IsClassWire wire = (class : ℕ) × (is_driven fabric class ≡ true) × (wire.0 ≡ wire_name class) × (wire.1 ≡ bit_in v class)

    wires-hold : HasWires fabric v (map (wire_of v) order)
    wires-hold = record {
      each = λ class driven. let found = listed-all class driven in wires-value v order class all-small found.1 found.0;
      only = λ wire there.
          All-contains IsClassWire (map (wire_of v) order) wire
          (All-map IsClassWire (wire_of v) order
          (All-weaker (λ c. is_driven fabric c ≡ true) (λ c. IsClassWire (wire_of v c)) (λ c driven. (c, driven, refl, refl)) order all-driven)) there;
    }

    abbrev pub from_all : Readable
    from_all = record { bits = (inputs ++ registers) ++ map (wire_of v) order; words = words }

    -- ---- registers

    rests-are : fold (settle_step from_all) registers (items_of fabric order)
        ≡ map (λ (place : ℕ × Register). (register_name place.1, rest_at fabric from_all place (get_or state.bits place.0 false))) (numbered fabric.registers)
    rests-are =
        fold-section 7 (settle_step from_all) (settle-skips from_all) registers (items_of fabric order)
        ∙ (ap (fold (settle_step from_all) registers) (flips-section fabric order ∙ sym (flat_map-numbered (register_items fabric) 0 fabric.registers))
        ∙ (ap (λ given. fold (settle_step from_all) given (flat_map (λ (place : ℕ × Register). register_items fabric place.1) (numbered fabric.registers)))
        (entries-are register_name false fabric.registers state.bits registers holding.register.named holding.register.valued)
        ∙ filled (λ (place : ℕ × Register). register_name place.1) (settle_step from_all) (λ place. register_items fabric place.1) (rest_at fabric from_all)
        (rests-fill fabric from_all) (λ place. get_or state.bits place.0 false) (numbered fabric.registers)
        (apart-numbered (NamesDiffer register_name) 0 fabric.registers writable.registers)))

    rests-settle : map (λ (place : ℕ × Register). rest_at fabric from_all place (get_or state.bits place.0 false)) (numbered fabric.registers) ≡ settled_bits fabric (bit_in v) state.bits
    rests-settle =
        map-every (λ (place : ℕ × Register). rest_at fabric from_all place (get_or state.bits place.0 false))
        (λ (place : ℕ × Register). settled_bit (is_connected fabric) (bit_in v) place.1 (get_or state.bits place.0 false))
        (λ place. unless-settles fabric within state pins v is (is_driven fabric) from_all (gives-read (map (wire_of v) order) wires-hold)
        place.0 place.1 (get_or state.bits place.0 false) (λ n reads connected. connected)) (numbered fabric.registers)

    -- the registers of the module settle as the fabric's do
    rests-hold : HasValues (fold (settle_step from_all) registers (items_of fabric order)) (map register_name fabric.registers) (settled_bits fabric (bit_in v) state.bits)
    rests-hold = record {
      named = ap names_of rests-are ∙ made-names register_name (λ place. rest_at fabric from_all place (get_or state.bits place.0 false)) fabric.registers;
      valued = ap values_of rests-are
          ∙ (made-values register_name (λ place. rest_at fabric from_all place (get_or state.bits place.0 false)) fabric.registers ∙ rests-settle);
    }

    -- ---- outputs

    -- the atom of an output has its value
    output-value : (source : Signal) → IsSignalThere fabric source
        → atom_value from_all (signal_atom fabric source) ≡ signal_value (is_connected fabric) state pins (bit_in v) source
    output-value source there =
        signal-value fabric within state pins v is (is_driven fabric) from_all (gives-read (map (wire_of v) order) wires-hold) source there (λ n found connected. connected)

    outputs-are : fold (output_step from_all) (flat_map output_start (ports_of fabric)) (items_of fabric order)
        ≡ map (λ output. (output_name output, atom_value from_all (signal_atom fabric output.source))) (outputs_of fabric)
    outputs-are =
        fold-section 6 (output_step from_all) (output-skips from_all) (flat_map output_start (ports_of fabric)) (items_of fabric order)
        ∙ (ap (fold (output_step from_all) (flat_map output_start (ports_of fabric)))
        (assigns-section fabric order ∙ sym (flat_map_single (output_assign fabric) (outputs_of fabric)))
        ∙ (ap (λ given. fold (output_step from_all) given (flat_map (λ output. output_assign fabric output ∷ []) (outputs_of fabric))) (outputs-start fabric)
        ∙ filled output_name (output_step from_all) (λ output. output_assign fabric output ∷ []) (λ output old. atom_value from_all (signal_atom fabric output.source))
        (output-fills fabric from_all) (λ output. false) (outputs_of fabric) (outputs-apart fabric writable.ports)))

    outputs-hold : HasValues (map (λ output. (output_name output, atom_value from_all (signal_atom fabric output.source))) (outputs_of fabric))
        (map output_name (outputs_of fabric)) (output_values fabric state pins v)
    unfolding output_values
    outputs-hold = record {
      named = map-map (λ output. (output_name output, atom_value from_all (signal_atom fabric output.source))) (λ entry. entry.0) (outputs_of fabric);
      valued = map-map (λ output. (output_name output, atom_value from_all (signal_atom fabric output.source))) (λ entry. entry.1) (outputs_of fabric)
          ∙ map-same (λ output. atom_value from_all (signal_atom fabric output.source)) (λ output. signal_value (is_connected fabric) state pins (bit_in v) output.source) (outputs_of fabric)
          (All-weaker (λ (output : Output). IsSignalThere fabric output.source)
          (λ (output : Output). atom_value from_all (signal_atom fabric output.source) ≡ signal_value (is_connected fabric) state pins (bit_in v) output.source)
          (λ output there. output-value output.source there) (outputs_of fabric) (outputs-have fabric within.closed));
    }

-- ---- the whole entry

module _ (fabric : Fabric) (within : IsWithin fabric) (writable : IsWritable fabric) (order : List ℕ) (ordered : IsWriteOrder (clocked_wiring fabric) order) (name : List ℕ)
    (entry : Entry) (is : IsEntry fabric entry) (next : State) (settles : entry.state ≡ settled_state fabric (bit_in entry.v) next)
    (inputs registers : List (List ℕ × Bool)) (words : List (List ℕ × ℕ)) (holding : Holding fabric next entry.pins inputs registers words) where
  before : IsConsistent fabric next entry.pins entry.v
  before = consistent-unsettled fabric within.closed next entry.pins entry.v (subst (λ state. IsConsistent fabric state entry.pins entry.v) settles is.consistent)

  -- the registers and the outputs that settle with some wires
  abbrev rests_with : List (List ℕ × Bool) → List (List ℕ × Bool)
  rests_with wires = fold (settle_step (record { bits = (inputs ++ registers) ++ wires; words = words })) registers (items_of fabric order)

  abbrev outputs_with : List (List ℕ × Bool) → List (List ℕ × Bool)
  outputs_with wires =
      fold (output_step (record { bits = (inputs ++ rests_with wires) ++ wires; words = words })) (flat_map output_start (ports_of fabric)) (items_of fabric order)

  registers-match : HasValues (rests_with (map (wire_of entry.v) order)) (map register_name fabric.registers) entry.state.bits
  unfolding settled_state
  registers-match =
      subst (λ (state : State). HasValues (rests_with (map (wire_of entry.v) order)) (map register_name fabric.registers) state.bits) (sym settles)
      (rests-hold fabric within writable next entry.pins entry.v before inputs registers words holding order ordered)

  words-match : HasValues words (map read_name fabric.rams) (map word_of entry.state.reads)
  unfolding settled_state
  words-match = subst (λ (state : State). HasValues words (map read_name fabric.rams) (map word_of state.reads)) (sym settles) holding.word

  memories-match : (memories : List (List ℕ × List ℕ)) → HasValues memories (map memory_name fabric.rams) (map (map word_of) next.words)
      → HasValues memories (map memory_name fabric.rams) (map (map word_of) entry.state.words)
  unfolding settled_state
  memories-match memories held = subst (λ (state : State). HasValues memories (map memory_name fabric.rams) (map (map word_of) state.words)) (sym settles) held

  after : Holding fabric entry.state entry.pins inputs (rests_with (map (wire_of entry.v) order)) words
  after = record { input = holding.input; register = registers-match; word = words-match }

  outputs-match : HasValues (outputs_with (map (wire_of entry.v) order)) (map output_name (outputs_of fabric)) entry.outputs
  outputs-match =
      subst (λ list. HasValues list (map output_name (outputs_of fabric)) entry.outputs)
      (sym (outputs-are fabric within writable entry.state entry.pins entry.v is.consistent inputs (rests_with (map (wire_of entry.v) order)) words after order ordered))
      (subst (λ values. HasValues (map (λ output. (
        output_name output,
        atom_value
            (from_all fabric within writable entry.state entry.pins entry.v is.consistent inputs (rests_with (map (wire_of entry.v) order)) words after order ordered)
            (signal_atom fabric output.source),
      )) (outputs_of fabric)) (map output_name (outputs_of fabric)) values)
      (sym is.outputs)
      (outputs-hold fabric within writable entry.state entry.pins entry.v is.consistent inputs (rests_with (map (wire_of entry.v) order)) words after order ordered))

  -- a module whose inputs, registers and memories hold pins and a state settles to the values of the fabric's entry
  pub settled-matches : (memories : List (List ℕ × List ℕ)) → HasValues memories (map memory_name fabric.rams) (map (map word_of) next.words)
      → Matches fabric entry (settled (module_of fabric order name) inputs registers words memories)
  unfolding settled module_of
  settled-matches memories held =
      let wires = wires-are fabric within writable next entry.pins entry.v before inputs registers words holding order ordered in
      record {
        inputs = holding.input;
        outputs = subst (λ list. HasValues (outputs_with list) (map output_name (outputs_of fabric)) entry.outputs) (sym wires) outputs-match;
        registers = subst (λ list. HasValues (rests_with list) (map register_name fabric.registers) entry.state.bits) (sym wires) registers-match;
        words = words-match;
        memories = memories-match memories held;
        wires = subst (HasWires fabric entry.v) (sym wires) (wires-hold fabric within writable next entry.pins entry.v before inputs registers words holding order ordered);
      }
