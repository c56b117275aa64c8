-- A clocked item of the module has its edge exactly if the fabric's user of the clock has one: at an event, and in a wave.
use Rattle.std.proofs.Common.{◌≡◌, ◌≢◌, ℕ, zero, suc, ◌+◌, ◌<◌, Bool, true, false, List, [], ◌∷◌, length, map, get_or, set, refl, sym, ap, ap₂, ◌∙◌, subst, arith, inl, inr, get_or-set_same, get_or-set_other, eq-eqb}
use Rattle.std.specs.Prelude.{All, Option, Some, None, bytes_eq, is_some, unwrap_or, ◌&&◌, ◌==◌}
use Rattle.std.proofs.lemmas.Bool.{cases_Bool, eqb-true}
use Rattle.std.proofs.lemmas.List.Elements.{All-head, All-tail}
use Rattle.shared_lemmas.proofs.Bytes.{bytes_eq-same, apart_turned}
use Rattle.fabric_model.proofs.Apart.{All-every}
use Rattle.plane_map.specs.declared.device.DeviceName.{DeviceName}
use Rattle.vlog_module.specs.Maps.{value_in}
use Rattle.vlog_semantics.specs.Entries.{Entry as ModuleEntry}
use Rattle.vlog_semantics.specs.Named.{names_of}
use Rattle.vlog_semantics.specs.Numbered.{numbered as counted}
use Rattle.vlog_semantics.specs.Run.{Edges as ItemEdges}
use Rattle.vlog_semantics.specs.Run.{has_edge as bit_edge}
use Rattle.vlog_semantics.specs.Run.{input_names, pin_of, is_pin, is_edge, is_same_bit, register_bit, edges_between}
use Rattle.fabric_model.specs.Joins.{class_of}
use Rattle.fabric_model.specs.Fabric.{Fabric, inputs_of}
use Rattle.fabric_model.specs.declared.register.Register.{Register}
use Rattle.fabric_model.specs.Drivers.{Rule, is_driven}
use Rattle.fabric_model.specs.Drivers.Rule.{pin_bit, constant, input, table_entry, majority_of, register_bit as register_rule, read_bit, copied}
use Rattle.fabric_model.specs.Values.{bit_in, is_connected}
use Rattle.fabric_model.specs.Steps.{Edges, has_edge, is_on_register, event_edges, wave_edges, Event, Entry, IsEntry, IsFirstStep}
use Rattle.fabric_model.specs.ClockLuts.{turned_bit, pass_of}
use Rattle.fabric_model.specs.Clocks.{ClockEnd, LeadsTo, turned_end, is_turned, turn_by, clock_end, register_class, clock_class}
use Rattle.fabric_model.specs.Clocks.ClockEnd.{at_pin, at_register, still, logic}
use Rattle.fabric_model.specs.Clocks.Turn.{ends}
use Rattle.fabric_model.specs.Clocks.LeadsTo.{ends_here, goes_on}
use Rattle.fabric_model.specs.Faults.{fabric_fault}
use Rattle.fabric_model.proofs.OneValue.{IsWithin, first-driver, first-is}
use Rattle.fabric_model.proofs.ClockLuts.{pass-no_pin}
use Rattle.fabric_model.proofs.Chains.{turn-still, turn-first, clock_end-leads, leads-register, HasEndValue, clock-value}
use Rattle.fabric_model.proofs.Edges.{edge-still}
use Rattle.fabric_model.proofs.Events.{HasSettled}
use Rattle.fabric_model.proofs.Taken.{taken-order}
use Rattle.fabric_model.proofs.Runs.{IsClockEnd, IsClocked}
use Rattle.fabric_model.proofs.Signals.{item-at}
use Rattle.fabric_module.specs.Names.{input_port_name, register_name}
use Rattle.fabric_module.specs.Rights.{input_name, register_at}
use Rattle.fabric_module.specs.Written.{end_name, clock_name, is_falling}
use Rattle.fabric_module.specs.Matching.{Matches}
use Rattle.fabric_module.proofs.Lists.{Apart, All-pick, map-map, names-absent, place-there, value_in-none, value_in-at}
use Rattle.fabric_module.proofs.Apart.{input-no_register}
use Rattle.fabric_module.proofs.Rights.{IsPlaceIn}
use Rattle.fabric_module.proofs.Settled.{IsWritable}
use Rattle.fabric_module.proofs.Ports.{ports_of, inputs-apart, inputs-start}

-- ---- edges

-- a bit that stays 0 has no edge
no-edge : (falling : Bool) → bit_edge falling false false ≡ false
no-edge true = refl
no-edge false = refl

-- a net that keeps its bit has none
net-still : (inverted : Bool) (net : ℕ) (before after : ℕ → Bool) → before net ≡ after net → has_edge inverted (Some net) before after ≡ false
net-still inverted net before after same =
    edge-still inverted (Some net) before after (λ n at. let is : net ≡ n = cc in subst (λ k. before k ≡ after k) is same)

-- a bit that an event changes
changed-edge : (falling bit old : Bool) → is_same_bit bit old ≡ false → is_edge falling bit ≡ bit_edge falling old bit
changed-edge true true true away = absurd cc
changed-edge true true false away = refl
changed-edge true false true away = refl
changed-edge true false false away = absurd cc
changed-edge false true true away = absurd cc
changed-edge false true false away = refl
changed-edge false false true away = refl
changed-edge false false false away = absurd cc

-- an edge of a bit is one of the turned bit the other way round
turned-edge : (turned inverted old bit : Bool) → bit_edge (turned_bit turned inverted) old bit ≡ bit_edge inverted (turned_bit turned old) (turned_bit turned bit)
turned-edge true true true bit = refl
turned-edge true true false true = refl
turned-edge true true false false = refl
turned-edge true false true bit = refl
turned-edge true false false bit = refl
turned-edge false inverted old bit = refl

-- ---- places of ports

pin-from : {X : Type 0} (name : X → List ℕ) (xs : List X) (from place : ℕ) → Apart name xs → place < length xs
    → value_in (counted from (map name xs)) (get_or (map name xs) place []) ≡ Some (from + place)
pin-from name [] from place apart within = absurd (omega arith)
pin-from name (x ∷ xs) from zero apart within =
    let same : from ≡ from + 0 = omega arith in
    rw (bytes_eq-same (name x) (name x) refl) (ap (λ n. Some n) same)
pin-from name (x ∷ xs) from (suc place) apart within =
    let same : from + 1 + place ≡ from + suc place = omega arith in
    rw (All-pick name (λ n. bytes_eq (name x) n ≡ false) xs place apart.0 (omega arith))
    (pin-from name xs (from + 1) place apart.1 (omega arith) ∙ ap (λ n. Some n) same)

input_names-are : (fabric : Fabric) → input_names (ports_of fabric) ≡ map input_port_name (inputs_of fabric)
input_names-are fabric = ap names_of (inputs-start fabric) ∙ map-map (λ port. (input_port_name port, false)) (λ (entry : List ℕ × Bool). entry.0) (inputs_of fabric)

-- the place of an input port
pub pin-place : (fabric : Fabric) → IsWritable fabric → (place : ℕ) → place < length (inputs_of fabric) → pin_of (ports_of fabric) (input_name fabric place) ≡ Some place
pin-place fabric writable place there =
    let zero_more : 0 + place ≡ place = omega arith in
    ap (λ names. value_in (counted 0 names) (input_name fabric place)) (input_names-are fabric)
    ∙ (pin-from input_port_name (inputs_of fabric) 0 place (inputs-apart fabric writable.ports) there
    ∙ ap (λ n. Some n) zero_more)

-- a name that no input has is no input port
counted-none : (from : ℕ) (names : List (List ℕ)) (q : List ℕ) → All (λ name. bytes_eq name q ≡ false) names → value_in (counted from names) q ≡ None
counted-none from [] q absent = refl
counted-none from (name ∷ names) q absent =
    rw (All-head (λ n. bytes_eq n q ≡ false) name names absent)
    (counted-none (from + 1) names q (All-tail (λ n. bytes_eq n q ≡ false) name names absent))

-- a register is no input port
register-no_pin : (fabric : Fabric) (register : Register) → pin_of (ports_of fabric) (register_name register) ≡ None
register-no_pin fabric register =
    ap (λ names. value_in (counted 0 names) (register_name register)) (input_names-are fabric)
    ∙ counted-none 0 (map input_port_name (inputs_of fabric)) (register_name register)
    (names-absent input_port_name (inputs_of fabric) (register_name register) (λ port. input-no_register port register))

-- an input port is none of the registers
pub input-no_value : {A : Type 0} (fabric : Fabric) (entries : List (List ℕ × A)) → names_of entries ≡ map register_name fabric.registers
    → (place : ℕ) → place < length (inputs_of fabric) → value_in entries (input_name fabric place) ≡ None
input-no_value fabric entries named place there =
    let apart : All (λ name. bytes_eq name (input_name fabric place) ≡ false) (map register_name fabric.registers) =
    names-absent register_name fabric.registers (input_name fabric place) (λ register.
    All-pick input_port_name (λ name. bytes_eq (register_name register) name ≡ false) (inputs_of fabric) place
    (All-every (λ port. bytes_eq (register_name register) (input_port_name port) ≡ false)
    (λ port. apart_turned (input_port_name port) (register_name register) (input-no_register port register)) (inputs_of fabric)) there) in
    value_in-none entries (input_name fabric place) (subst (All (λ name. bytes_eq name (input_name fabric place) ≡ false)) (sym named) apart)

-- ---- chains end at pins that are there

rule-pin : (connected : ℕ → Bool) (taken : Bool) (class : ℕ) (rule : Rule) (place : ℕ) (turned : Bool) → turn_by connected taken class rule ≡ ends (at_pin place turned)
    → rule ≡ pin_bit place
rule-pin connected taken class (pin_bit from) place turned is = cc
rule-pin connected taken class (constant bit) place turned is = absurd cc
rule-pin connected taken class (input source) place turned is = absurd cc
rule-pin connected taken class (table_entry table) place turned is = absurd (pass-no_pin place turned (pass_of connected table) is)
rule-pin connected taken class (majority_of a b c) place turned is = absurd cc
rule-pin connected true class (register_rule from register) place turned is = absurd cc
rule-pin connected false class (register_rule from register) place turned is = absurd cc
rule-pin connected taken class (read_bit ram bit) place turned is = absurd cc
rule-pin connected taken class (copied source) place turned is = absurd cc

-- a turned chain ends at a pin if the chain does
before-turned : (place : ℕ) (turned by : Bool) (later : ClockEnd) → turned_end by later ≡ at_pin place turned → (other : Bool) × (later ≡ at_pin place other)
before-turned place turned by (at_pin from other) is = let same : from ≡ place = cc in (other, ap (λ p. at_pin p other) same)
before-turned place turned by (at_register class from other) is = absurd cc
before-turned place turned by (still bit) is = absurd cc
before-turned place turned by logic is = absurd cc

pub leads-place : (fabric : Fabric) → IsWritable fabric → {class : ℕ} {end : ClockEnd} → LeadsTo fabric class end → (place : ℕ) (turned : Bool) → end ≡ at_pin place turned
    → place < length (inputs_of fabric)
leads-place fabric writable {class} (ends_here turn) place turned at =
    elim (cases_Bool (is_driven fabric class)) [
      | inl driven ↦
          let found = first-driver fabric class driven in
          let goes : turn_by (is_connected fabric) fabric.register_clocks class found.0.rule ≡ ends (at_pin place turned) =
          sym (turn-first fabric class found.0 found.1 (first-is fabric class found.0 found.1 found.2)) ∙ (turn ∙ ap ends at) in
          subst (IsPlaceIn fabric) (rule-pin (is_connected fabric) fabric.register_clocks class found.0.rule place turned goes) (writable.places found.0 found.2.there)
      | inr away ↦ let never : ends (still false) ≡ ends (at_pin place turned) = sym (turn-still fabric class away) ∙ (turn ∙ ap ends at) in absurd cc
    ]
leads-place fabric writable (goes_on by net later turn is rest) place turned at =
    let before = before-turned place turned by later (sym is ∙ at) in leads-place fabric writable rest place before.0 before.1

-- a register at which a chain ends is there
pub leads-index : (fabric : Fabric) → IsWithin fabric → (from class place : ℕ) (turned : Bool) → LeadsTo fabric from (at_register class place turned)
    → place < length fabric.registers
leads-index fabric within from class place turned leads =
    let at = leads-register fabric within leads in place-there fabric.registers (place, at.register) at.there

-- ---- edges of items and of users

-- whether an item has its edge, by a clock that may be missing
abbrev pub clock_test : ItemEdges → Bool → Option (List ℕ) → Bool
clock_test edges falling None = false
clock_test edges falling (Some clock) = edges falling clock

-- items have their edges exactly if the users have theirs for which they are written
abbrev pub Agree : Fabric → ItemEdges → Edges → Type 0
Agree fabric edges user_edges =
    (inverted : Bool) (clock : Option ℕ) → IsClocked fabric clock
    → clock_test edges (is_falling fabric inverted clock) (clock_name fabric clock) ≡ user_edges inverted clock

-- the same by the ends of clock chains
pub record AgreeAtEnds (fabric : Fabric) (edges : ItemEdges) (user_edges : Edges) : Type 0 where
  pub none : (inverted : Bool) → user_edges inverted None ≡ false
  pub stays : (inverted : Bool) (net : ℕ) (bit : Bool) → clock_end fabric net ≡ still bit → user_edges inverted (Some net) ≡ false
  pub pin : (inverted : Bool) (net place : ℕ) (turned : Bool) → clock_end fabric net ≡ at_pin place turned
      → edges (turned_bit turned inverted) (input_name fabric place) ≡ user_edges inverted (Some net)
  pub register : (inverted : Bool) (net class place : ℕ) (turned : Bool) → clock_end fabric net ≡ at_register class place turned
      → edges (turned_bit turned inverted) (register_at fabric place) ≡ user_edges inverted (Some net)

module _ (fabric : Fabric) (edges : ItemEdges) (user_edges : Edges) (at_ends : AgreeAtEnds fabric edges user_edges) where
  end-agrees : (inverted : Bool) (net : ℕ) (end : ClockEnd) → clock_end fabric net ≡ end → IsClockEnd end
      → clock_test edges (turned_bit (is_turned end) inverted) (end_name fabric end) ≡ user_edges inverted (Some net)
  end-agrees inverted net (at_pin place turned) is good = at_ends.pin inverted net place turned is
  end-agrees inverted net (at_register class place turned) is good = at_ends.register inverted net class place turned is
  end-agrees inverted net (still bit) is good = sym (at_ends.stays inverted net bit is)
  end-agrees inverted net logic is good = absurd good

  pub agree-all : Agree fabric edges user_edges
  unfolding clock_name is_falling
  agree-all inverted None good = sym (at_ends.none inverted)
  agree-all inverted (Some net) good = end-agrees inverted net (clock_end fabric net) refl good

-- ---- clocks that are registers

module _ (fabric : Fabric) where
  pub on-none : is_on_register fabric None ≡ false
  unfolding clock_class
  on-none = refl

  pub on-end : (net : ℕ) (end : ClockEnd) → clock_end fabric net ≡ end → is_on_register fabric (Some net) ≡ is_some (register_class end)
  unfolding clock_class
  on-end net end is = ap (λ e. is_some (register_class e)) is

-- ---- the bits of clocks in an entry

-- An entry of the fabric whose registers have settled, each whose asynchronous set or reset is 1 having its set bit; and the entry of the
-- module that holds its values.
pub record Shows (fabric : Fabric) (entry : Entry) (held : ModuleEntry) : Type 0 where
  pub is : IsEntry fabric entry
  pub settles : HasSettled fabric entry
  pub matches : Matches fabric entry held

module _ (device : DeviceName) (fabric : Fabric) (taken : fabric_fault device fabric ≡ None) (within : IsWithin fabric) where
  -- the net of a clock has the value of the end of its chain
  bit-at : (entry : Entry) → IsEntry fabric entry → (net : ℕ) (end : ClockEnd) → clock_end fabric net ≡ end
      → HasEndValue fabric entry.state entry.pins entry.v end (bit_in entry.v net)
  bit-at entry is net end at =
      let order = taken-order device fabric taken within in
      clock-value fabric within entry.state entry.pins entry.v is.consistent net end
      (subst (LeadsTo fabric (class_of fabric.joins net)) at (clock_end-leads fabric within order.it order.is net))

  -- a register that is a clock is there
  pub register-there : (net class place : ℕ) (turned : Bool) → clock_end fabric net ≡ at_register class place turned
      → place < length fabric.registers
  register-there net class place turned at =
      let order = taken-order device fabric taken within in
      leads-index fabric within (class_of fabric.joins net) class place turned (subst (LeadsTo fabric (class_of fabric.joins net)) at (clock_end-leads fabric within order.it order.is net))

  -- a clock that is always the same has no edge between two entries
  still-stays : (one two : Entry) → IsEntry fabric one → IsEntry fabric two → (inverted : Bool) (net : ℕ) (bit : Bool) → clock_end fabric net ≡ still bit
      → has_edge inverted (Some net) (bit_in one.v) (bit_in two.v) ≡ false
  still-stays one two of_one of_two inverted net bit is =
      net-still inverted net (bit_in one.v) (bit_in two.v) (bit-at one of_one net (still bit) is ∙ sym (bit-at two of_two net (still bit) is))

  module _ (writable : IsWritable fabric) where
    pub pin-there : (net place : ℕ) (turned : Bool) → clock_end fabric net ≡ at_pin place turned → place < length (inputs_of fabric)
    pin-there net place turned is =
        let order = taken-order device fabric taken within in
        leads-place fabric writable (clock_end-leads fabric within order.it order.is net) place turned is

    -- ---- an event

    module _ (before : Entry) (event : Event) (first : Entry) (of_before : IsEntry fabric before) (step : IsFirstStep fabric before event first) where
      bit-after : (net place : ℕ) (turned : Bool) → clock_end fabric net ≡ at_pin place turned
          → bit_in first.v net ≡ turned_bit turned (get_or (set before.pins event.pin event.bit) place false)
      bit-after net place turned is =
          bit-at first step.entry net (at_pin place turned) is ∙ ap (λ pins. turned_bit turned (get_or pins place false)) step.pins

      -- an input that the event leaves as it is has no edge
      pin-stays : (inverted : Bool) (net place : ℕ) (turned : Bool) → clock_end fabric net ≡ at_pin place turned
          → get_or (set before.pins event.pin event.bit) place false ≡ get_or before.pins place false
          → has_edge inverted (Some net) (bit_in before.v) (bit_in first.v) ≡ false
      pin-stays inverted net place turned is same =
          net-still inverted net (bit_in before.v) (bit_in first.v)
          (bit-at before of_before net (at_pin place turned) is ∙ sym (bit-after net place turned is ∙ ap (turned_bit turned) same))

      -- users whose clock is an input have the edges of it, users whose clock is a register have none
      on-pin : (inverted : Bool) (net place : ℕ) (turned : Bool) → clock_end fabric net ≡ at_pin place turned
          → event_edges fabric (bit_in before.v) (bit_in first.v) inverted (Some net) ≡ has_edge inverted (Some net) (bit_in before.v) (bit_in first.v)
      on-pin inverted net place turned is = rw (on-end fabric net (at_pin place turned) is) refl

      event-still : (inverted : Bool) (net : ℕ) (bit : Bool) → clock_end fabric net ≡ still bit
          → event_edges fabric (bit_in before.v) (bit_in first.v) inverted (Some net) ≡ false
      event-still inverted net bit is =
          rw (on-end fabric net (still bit) is) (still-stays before first of_before step.entry inverted net bit is)

      event-none : (inverted : Bool) → event_edges fabric (bit_in before.v) (bit_in first.v) inverted None ≡ false
      event-none inverted = rw (on-none fabric) refl

      event-register : (inverted : Bool) (net class place : ℕ) (turned : Bool) → clock_end fabric net ≡ at_register class place turned
          → event_edges fabric (bit_in before.v) (bit_in first.v) inverted (Some net) ≡ false
      event-register inverted net class place turned is = rw (on-end fabric net (at_register class place turned) is) refl

      -- if the event leaves all inputs as they are, no user has an edge
      module _ (same : set before.pins event.pin event.bit ≡ before.pins) where
        end-stays : (inverted : Bool) (net : ℕ) (end : ClockEnd) → clock_end fabric net ≡ end → IsClockEnd end
            → event_edges fabric (bit_in before.v) (bit_in first.v) inverted (Some net) ≡ false
        end-stays inverted net (at_pin place turned) is good =
            on-pin inverted net place turned is ∙ pin-stays inverted net place turned is (ap (λ pins. get_or pins place false) same)
        end-stays inverted net (at_register class place turned) is good = event-register inverted net class place turned is
        end-stays inverted net (still bit) is good = event-still inverted net bit is
        end-stays inverted net logic is good = absurd good

        pub no-event : (inverted : Bool) (clock : Option ℕ) → IsClocked fabric clock → event_edges fabric (bit_in before.v) (bit_in first.v) inverted clock ≡ false
        no-event inverted None good = event-none inverted
        no-event inverted (Some net) good = end-stays inverted net (clock_end fabric net) refl good

      -- if it changes its input, the items have their edges with the users
      module _ (size : length before.pins ≡ length (inputs_of fabric)) (changes : is_same_bit event.bit (get_or before.pins event.pin false) ≡ false) where
        abbrev by_event : ItemEdges
        by_event falling clock = is_pin event.pin (pin_of (ports_of fabric) clock) && is_edge falling event.bit

        tick-here : (inverted : Bool) (net place : ℕ) (turned : Bool) → clock_end fabric net ≡ at_pin place turned → place ≡ event.pin → place < length (inputs_of fabric)
            → is_edge (turned_bit turned inverted) event.bit ≡ has_edge inverted (Some net) (bit_in before.v) (bit_in first.v)
        tick-here inverted net place turned is here there =
            let inside : event.pin < length before.pins = omega (arith, here, there, size) in
            let was : bit_in before.v net ≡ turned_bit turned (get_or before.pins event.pin false) =
            bit-at before of_before net (at_pin place turned) is ∙ ap (λ n. turned_bit turned (get_or before.pins n false)) here in
            let becomes : bit_in first.v net ≡ turned_bit turned event.bit =
            bit-after net place turned is
            ∙ ap (turned_bit turned) (ap (λ n. get_or (set before.pins event.pin event.bit) n false) here ∙ get_or-set_same before.pins event.pin event.bit false inside) in
            changed-edge (turned_bit turned inverted) event.bit (get_or before.pins event.pin false) changes
            ∙ (turned-edge turned inverted (get_or before.pins event.pin false) event.bit ∙ ap₂ (bit_edge inverted) (sym was) (sym becomes))

        tick-pin : (inverted : Bool) (net place : ℕ) (turned : Bool) → clock_end fabric net ≡ at_pin place turned
            → by_event (turned_bit turned inverted) (input_name fabric place) ≡ event_edges fabric (bit_in before.v) (bit_in first.v) inverted (Some net)
        tick-pin inverted net place turned is =
            let there = pin-there net place turned is in
            let found = pin-place fabric writable place there in
            elim (cases_Bool (place == event.pin)) [
              | inl here ↦ rw (found, here) (tick-here inverted net place turned is (eqb-true place event.pin here) there ∙ sym (on-pin inverted net place turned is))
              | inr away ↦
                  let ne : place ≢ event.pin = λ same. let never : true ≡ false = sym (eq-eqb place event.pin same) ∙ away in absurd cc in
                  rw (found, away)
                  (sym (on-pin inverted net place turned is
                  ∙ pin-stays inverted net place turned is (get_or-set_other before.pins event.pin place event.bit false ne)))
            ]

        tick-register : (inverted : Bool) (net class place : ℕ) (turned : Bool) → clock_end fabric net ≡ at_register class place turned
            → by_event (turned_bit turned inverted) (register_at fabric place) ≡ event_edges fabric (bit_in before.v) (bit_in first.v) inverted (Some net)
        tick-register inverted net class place turned is =
            let at = item-at fabric.registers place (register-there net class place turned is) in
            rw (ap (pin_of (ports_of fabric)) (at.1.named register_name) ∙ register-no_pin fabric at.0) (sym (event-register inverted net class place turned is))

        pub event-agrees : Agree fabric by_event (event_edges fabric (bit_in before.v) (bit_in first.v))
        event-agrees =
            agree-all fabric by_event (event_edges fabric (bit_in before.v) (bit_in first.v)) (record {
              none = event-none;
              stays = event-still;
              pin = tick-pin;
              register = tick-register;
            })

    -- ---- a wave

    -- the value of a register in an entry of the module, and of an input port, which is no register
    register-held : (entry : Entry) (held : ModuleEntry) → Matches fabric entry held → (place : ℕ) → place < length fabric.registers
        → register_bit held (register_at fabric place) ≡ get_or entry.state.bits place false
    register-held entry held match place there =
        ap (λ found. unwrap_or found false)
        (value_in-at register_name false fabric.registers held.registers place writable.registers match.registers.named there
        ∙ ap (λ values. Some (get_or values place false)) match.registers.valued)

    input-held : (entry : Entry) (held : ModuleEntry) → Matches fabric entry held → (place : ℕ) → place < length (inputs_of fabric)
        → register_bit held (input_name fabric place) ≡ false
    input-held entry held match place there = ap (λ found. unwrap_or found false) (input-no_value fabric held.registers match.registers.named place there)

    module _ (earlier : Entry) (old : ModuleEntry) (first : Shows fabric earlier old) (before : Entry) (held : ModuleEntry) (second : Shows fabric before held) where
      wave-none : (inverted : Bool) → wave_edges fabric (bit_in earlier.v) (bit_in before.v) inverted None ≡ false
      wave-none inverted = rw (on-none fabric) refl

      wave-still : (inverted : Bool) (net : ℕ) (bit : Bool) → clock_end fabric net ≡ still bit
          → wave_edges fabric (bit_in earlier.v) (bit_in before.v) inverted (Some net) ≡ false
      wave-still inverted net bit is = rw (on-end fabric net (still bit) is) refl

      wave-off : (inverted : Bool) (net place : ℕ) (turned : Bool) → clock_end fabric net ≡ at_pin place turned
          → wave_edges fabric (bit_in earlier.v) (bit_in before.v) inverted (Some net) ≡ false
      wave-off inverted net place turned is = rw (on-end fabric net (at_pin place turned) is) refl

      wave-on : (inverted : Bool) (net class place : ℕ) (turned : Bool) → clock_end fabric net ≡ at_register class place turned
          → wave_edges fabric (bit_in earlier.v) (bit_in before.v) inverted (Some net) ≡ bit_edge inverted (bit_in earlier.v net) (bit_in before.v net)
      wave-on inverted net class place turned is = rw (on-end fabric net (at_register class place turned) is) refl

      wave-pin : (inverted : Bool) (net place : ℕ) (turned : Bool) → clock_end fabric net ≡ at_pin place turned
          → edges_between old held (turned_bit turned inverted) (input_name fabric place) ≡ wave_edges fabric (bit_in earlier.v) (bit_in before.v) inverted (Some net)
      wave-pin inverted net place turned is =
          let there = pin-there net place turned is in
          ap₂ (bit_edge (turned_bit turned inverted)) (input-held earlier old first.matches place there) (input-held before held second.matches place there)
          ∙ (no-edge (turned_bit turned inverted) ∙ sym (wave-off inverted net place turned is))

      wave-register : (inverted : Bool) (net class place : ℕ) (turned : Bool) → clock_end fabric net ≡ at_register class place turned
          → edges_between old held (turned_bit turned inverted) (register_at fabric place) ≡ wave_edges fabric (bit_in earlier.v) (bit_in before.v) inverted (Some net)
      wave-register inverted net class place turned is =
          let there = register-there net class place turned is in
          let was = bit-at earlier first.is net (at_register class place turned) is (sym first.settles) in
          let becomes = bit-at before second.is net (at_register class place turned) is (sym second.settles) in
          ap₂ (bit_edge (turned_bit turned inverted)) (register-held earlier old first.matches place there) (register-held before held second.matches place there)
          ∙ (turned-edge turned inverted (get_or earlier.state.bits place false) (get_or before.state.bits place false)
          ∙ (ap₂ (bit_edge inverted) (sym was) (sym becomes) ∙ sym (wave-on inverted net class place turned is)))

      -- between two entries the items have their edges with the users
      pub wave-agrees : Agree fabric (edges_between old held) (wave_edges fabric (bit_in earlier.v) (bit_in before.v))
      wave-agrees =
          agree-all fabric (edges_between old held) (wave_edges fabric (bit_in earlier.v) (bit_in before.v)) (record {
            none = wave-none;
            stays = wave-still;
            pin = wave-pin;
            register = wave-register;
          })
