-- Clock chains: the search finds the end of a chain, and a net has the value of the end of its chain.
use Rattle.std.proofs.Common.{◌≡◌, ℕ, zero, suc, ◌+◌, ◌<◌, ◌≤◌, Bool, true, false, List, [], ◌∷◌, length, get_or, refl, sym, ap, ◌∙◌, subst, arith, inl, inr}
use Rattle.std.specs.Prelude.{Contains, slice_get, Some, None, if◌then◌else◌}
use Rattle.std.proofs.lemmas.Bool.{cases_Bool}
use Rattle.fabric_model.specs.declared.register.LutTable.{LutTable}
use Rattle.fabric_model.specs.declared.register.Register.{Register}
use Rattle.fabric_model.specs.Joins.{class_of}
use Rattle.fabric_model.specs.Fabric.{Fabric, numbered}
use Rattle.fabric_model.specs.Drivers.{Rule, Drive, drivers_of, is_driven, nets_read}
use Rattle.fabric_model.specs.Drivers.Rule.{pin_bit, constant, input, table_entry, majority_of, register_bit, read_bit, copied}
use Rattle.fabric_model.specs.Values.{State, value_of, bit_in, is_connected, IsConsistent}
use Rattle.fabric_model.specs.Steps.{settled_state}
use Rattle.graph_order.specs.Wiring.{Wiring, has, depends, IsReady, IsWriteOrder}
use Rattle.fabric_model.specs.Wiring.{wiring_of, clocked_wiring}
use Rattle.fabric_model.specs.ClockLuts.{LutPass, turned_bit, pass_of}
use Rattle.fabric_model.specs.ClockLuts.LutPass.{holds, follows, mixes}
use Rattle.fabric_model.specs.Clocks.{ClockEnd, Turn, LeadsTo, turned_end, turn_through, turn_by, turn_of, turn_at, end_by, end_within, clock_end, register_class}
use Rattle.fabric_model.specs.Clocks.ClockEnd.{at_pin, at_register, still, logic}
use Rattle.fabric_model.specs.Clocks.Turn.{ends, goes_to}
use Rattle.fabric_model.specs.Clocks.LeadsTo.{ends_here, goes_on}
use Rattle.graph_order.proofs.OneOrder.{has-none, has-first, has-cases, Continues, order-continues}
use Rattle.graph_order.proofs.OneOrder.Continues.{whole, next}
use Rattle.graph_order.proofs.Ordered.{order-few}
use Rattle.fabric_model.proofs.ClockLuts.{HasPassValue, pass-value, pass-reads}
use Rattle.fabric_model.proofs.OneValue.{IsWithin, first-driver, first-is, first-class, first-reads, driven-is, driven-below, net-bit, none-driven, class_bit, class-still}
use Rattle.fabric_model.proofs.Clocking.{IsOver, over-itself, over-clocked, ready-over}
use Rattle.fabric_model.proofs.Settling.{numbered-slice, settled_bits-at, HasRegister, drive-has}

-- ---- one end

pub leads-one : {fabric : Fabric} {class : ℕ} {a b : ClockEnd} → LeadsTo fabric class a → LeadsTo fabric class b → a ≡ b
leads-one (ends_here p) (ends_here q) = cc
leads-one (ends_here p) (goes_on turned net later q is rest) = absurd (cc)
leads-one (goes_on turned net later p is rest) (ends_here q) = absurd (cc)
leads-one {fabric} {class} {a} {b} (goes_on turned net later p is rest) (goes_on other source last q also more) =
    let same : source ≡ net = cc in
    let alike : turned ≡ other = cc in
    is ∙ (ap (turned_end turned) (leads-one rest (subst (λ n. LeadsTo fabric (class_of fabric.joins n) last) same more)) ∙ (ap (λ t. turned_end t last) alike ∙ sym also))

-- ---- what a chain does at a driver

-- a LUT reads the net to which a chain goes on
through-reads : (connected : ℕ → Bool) (table : LutTable) (pass : LutPass) → pass_of connected table ≡ pass → (turned : Bool) (net : ℕ)
    → turn_through pass ≡ goes_to turned net → has (nets_read (table_entry table)) net ≡ true
unfolding nets_read
through-reads connected table (holds it) at turned net goes = absurd cc
through-reads connected table (follows other source) at turned net goes =
    let same : follows other source ≡ follows turned net = cc in pass-reads connected table turned net (at ∙ same)
through-reads connected table mixes at turned net goes = absurd cc

-- a chain goes on from a copy or a LUT that follows a net
pub goes-reads-by : (connected : ℕ → Bool) (taken : Bool) (class : ℕ) (rule : Rule) (turned : Bool) (net : ℕ) → turn_by connected taken class rule ≡ goes_to turned net → has (nets_read rule) net ≡ true
unfolding nets_read
goes-reads-by connected taken class (pin_bit place) turned net is = absurd cc
goes-reads-by connected taken class (constant it) turned net is = absurd cc
goes-reads-by connected taken class (input source) turned net is = absurd cc
goes-reads-by connected taken class (table_entry table) turned net is = through-reads connected table (pass_of connected table) refl turned net is
goes-reads-by connected taken class (majority_of a b c) turned net is = absurd cc
goes-reads-by connected taken class (register_bit place register) turned net is = absurd cc
goes-reads-by connected taken class (read_bit ram bit) turned net is = absurd cc
goes-reads-by connected taken class (copied source) turned net is = let same : source ≡ net = cc in subst (λ n. has (source ∷ []) n ≡ true) same (has-first source [])

-- ---- the search finds the end

module _ (fabric : Fabric) where
  -- a class without a driver is always 0
  pub turn-still : (class : ℕ) → is_driven fabric class ≡ false → turn_at fabric class ≡ ends (still false)
  unfolding turn_at
  turn-still class away = ap (turn_of (is_connected fabric) fabric.register_clocks class) (none-driven fabric class away)

  -- what the turn of a class with a driver is
  pub turn-first : (class : ℕ) (first : Drive) (rest : List Drive) → drivers_of fabric class ≡ first ∷ rest → turn_at fabric class ≡ turn_by (is_connected fabric) fabric.register_clocks class first.rule
  unfolding turn_at
  turn-first class first rest is = ap (turn_of (is_connected fabric) fabric.register_clocks class) is

  -- a class from which a chain goes on reads the net to which it goes
  pub goes-reads : (class : ℕ) (turned : Bool) (net : ℕ) → is_driven fabric class ≡ true → turn_at fabric class ≡ goes_to turned net
      → depends (wiring_of fabric) class (class_of fabric.joins net) ≡ true
  goes-reads class turned net driven goes =
      let found = first-driver fabric class driven in
      let is = first-is fabric class found.0 found.1 found.2 in
      first-reads fabric class found.0 found.1 is net
      (goes-reads-by (is_connected fabric) fabric.register_clocks class found.0.rule turned net (sym (turn-first class found.0 found.1 is) ∙ goes))

  -- the search by the turn of a class
  search-ends : (more class : ℕ) (end : ClockEnd) → turn_at fabric class ≡ ends end → end_within fabric (suc more) class ≡ end
  unfolding end_within
  search-ends more class end is = ap (end_by (λ net. end_within fabric more (class_of fabric.joins net))) is

  search-goes : (more class : ℕ) (turned : Bool) (net : ℕ) → turn_at fabric class ≡ goes_to turned net
      → end_within fabric (suc more) class ≡ turned_end turned (end_within fabric more (class_of fabric.joins net))
  unfolding end_within
  search-goes more class turned net is = ap (end_by (λ source. end_within fabric more (class_of fabric.joins source))) is

  leads-here : (more class : ℕ) (end : ClockEnd) → turn_at fabric class ≡ ends end → LeadsTo fabric class (end_within fabric (suc more) class)
  leads-here more class end is = ends_here (is ∙ ap ends (sym (search-ends more class end is)))

  leads-still : (more class : ℕ) → is_driven fabric class ≡ false → LeadsTo fabric class (end_within fabric (suc more) class)
  leads-still more class away = leads-here more class (still false) (turn-still class away)

  leads-on : (more class : ℕ) (turned : Bool) (net : ℕ) → turn_at fabric class ≡ goes_to turned net → LeadsTo fabric (class_of fabric.joins net) (end_within fabric more (class_of fabric.joins net))
      → LeadsTo fabric class (end_within fabric (suc more) class)
  leads-on more class turned net is rest =
      goes_on turned net (end_within fabric more (class_of fabric.joins net)) is (search-goes more class turned net is) rest

  -- classes of joined nets whose chains are found within a number of steps
  AreFound : List ℕ → Type 0
  AreFound before = (class : ℕ) → has before class ≡ true → (steps : ℕ) → length before < steps → LeadsTo fabric class (end_within fabric steps class)

  -- a class without a driver takes one step
  found-still : (class steps : ℕ) → is_driven fabric class ≡ false → 0 < steps → LeadsTo fabric class (end_within fabric steps class)
  found-still class zero away some = absurd (omega arith)
  found-still class (suc more) away some = leads-still more class away

  module _ (before : List ℕ) (class : ℕ) (ready : IsReady (wiring_of fabric) (has before) class) (found : AreFound before) where
    found-turn : (more : ℕ) → length before < more → (turn : Turn) → turn_at fabric class ≡ turn → LeadsTo fabric class (end_within fabric (suc more) class)
    unfolding AreFound
    found-turn more few (ends end) is = leads-here more class end is
    found-turn more few (goes_to turned net) is =
        leads-on more class turned net is (elim (cases_Bool (is_driven fabric (class_of fabric.joins net))) [
          | inl drives ↦
              let driven : is_driven fabric class ≡ true = sym (driven-is fabric class) ∙ ready.driven in
              found (class_of fabric.joins net) (ready.inputs (class_of fabric.joins net) (goes-reads class turned net driven is) (driven-is fabric (class_of fabric.joins net) ∙ drives)) more few
          | inr away ↦ found-still (class_of fabric.joins net) more away (omega arith)
        ])

    found-steps : (steps : ℕ) → suc (length before) < steps → LeadsTo fabric class (end_within fabric steps class)
    found-steps zero few = absurd (omega arith)
    found-steps (suc more) few = found-turn more (omega arith) (turn_at fabric class) refl

    found-more : AreFound (class ∷ before)
    unfolding AreFound
    found-more k listed steps few =
        elim (has-cases class before k listed) [
          | inl here ↦ subst (λ c. LeadsTo fabric c (end_within fabric steps c)) here (found-steps steps (omega arith))
          | inr after ↦ found k after steps (omega arith)
        ]

  found-none : AreFound []
  unfolding AreFound
  found-none class listed steps few = absurd (has-none class listed)

  module _ (within : IsWithin fabric) (wiring : Wiring) (over : IsOver fabric wiring) where
    found-all : {before order : List ℕ} → Continues wiring before order → AreFound before
        → (class : ℕ) → is_driven fabric class ≡ true → (steps : ℕ) → length before + length order < steps → LeadsTo fabric class (end_within fabric steps class)
    unfolding AreFound
    found-all (whole all) found class driven steps few =
        let below : class < wiring.count = subst (λ n. class < n) (sym over.count) (driven-below fabric within class driven) in
        found class (all class below (over.driven class ∙ driven)) steps (omega arith)
    found-all {before} (next {node = first} least rest) found class driven steps few =
        found-all rest (found-more before first (ready-over fabric wiring over (has before) first least.ready) found) class driven steps (omega arith)

    -- if there is a write order of such a wiring, the search finds the end of each chain
    pub clock_end-leads_over : (order : List ℕ) → IsWriteOrder wiring order → (net : ℕ) → LeadsTo fabric (class_of fabric.joins net) (clock_end fabric net)
    unfolding clock_end
    clock_end-leads_over order is net =
        let few : length order ≤ fabric.nets = subst (λ n. length order ≤ n) over.count (order-few wiring order is) in
        elim (cases_Bool (is_driven fabric (class_of fabric.joins net))) [
          | inl driven ↦ found-all (order-continues wiring order is) found-none (class_of fabric.joins net) driven (suc fabric.nets) (omega arith)
          | inr away ↦ found-still (class_of fabric.joins net) (suc fabric.nets) away (omega arith)
        ]

  -- by the order that leaves clocks out
  pub clock_end-leads : IsWithin fabric → (order : List ℕ) → IsWriteOrder (wiring_of fabric) order
      → (net : ℕ) → LeadsTo fabric (class_of fabric.joins net) (clock_end fabric net)
  clock_end-leads within = clock_end-leads_over within (wiring_of fabric) (over-itself fabric)

  -- and by the order that counts registers that are clocks
  pub clock_end-leads_clocked : IsWithin fabric → (order : List ℕ) → IsWriteOrder (clocked_wiring fabric) order
      → (net : ℕ) → LeadsTo fabric (class_of fabric.joins net) (clock_end fabric net)
  clock_end-leads_clocked within = clock_end-leads_over within (clocked_wiring fabric) (over-clocked fabric)

-- ---- no register is a clock

turned-none : (turned : Bool) (end : ClockEnd) → register_class end ≡ None → register_class (turned_end turned end) ≡ None
turned-none turned (at_pin place other) none = refl
turned-none turned (at_register class place other) none = absurd cc
turned-none turned (still bit) none = refl
turned-none turned logic none = refl

through-none : (pass : LutPass) (end : ClockEnd) → turn_through pass ≡ ends end → register_class end ≡ None
through-none (holds bit) end turn = let at : still bit ≡ end = cc in ap register_class (sym at)
through-none (follows turned net) end turn = absurd cc
through-none mixes end turn = let at : logic ≡ end = cc in ap register_class (sym at)

-- a driver that ends a chain ends it at no register, if registers aren't taken as clocks
rule-none : (connected : ℕ → Bool) (class : ℕ) (rule : Rule) (end : ClockEnd) → turn_by connected false class rule ≡ ends end → register_class end ≡ None
rule-none connected class (pin_bit place) end turn = let at : at_pin place false ≡ end = cc in ap register_class (sym at)
rule-none connected class (constant it) end turn = let at : logic ≡ end = cc in ap register_class (sym at)
rule-none connected class (input source) end turn = let at : logic ≡ end = cc in ap register_class (sym at)
rule-none connected class (table_entry table) end turn = through-none (pass_of connected table) end turn
rule-none connected class (majority_of a b c) end turn = let at : logic ≡ end = cc in ap register_class (sym at)
rule-none connected class (register_bit place register) end turn = let at : logic ≡ end = cc in ap register_class (sym at)
rule-none connected class (read_bit ram bit) end turn = let at : logic ≡ end = cc in ap register_class (sym at)
rule-none connected class (copied source) end turn = absurd cc

drives-none : (connected : ℕ → Bool) (class : ℕ) (drives : List Drive) (end : ClockEnd) → turn_of connected false class drives ≡ ends end → register_class end ≡ None
drives-none connected class [] end turn = let at : still false ≡ end = cc in ap register_class (sym at)
drives-none connected class (drive ∷ drives) end turn = rule-none connected class drive.rule end turn

module _ (fabric : Fabric) (alone : fabric.register_clocks ≡ false) where
  turn-none : (class : ℕ) (end : ClockEnd) → turn_at fabric class ≡ ends end → register_class end ≡ None
  unfolding turn_at
  turn-none class end turn = drives-none (is_connected fabric) class (drivers_of fabric class) end (sym (ap (λ taken. turn_of (is_connected fabric) taken class (drivers_of fabric class)) alone) ∙ turn)

  end-none : (more class : ℕ) → ((net : ℕ) → register_class (end_within fabric more (class_of fabric.joins net)) ≡ None) → (turn : Turn) → turn_at fabric class ≡ turn
      → register_class (end_within fabric (suc more) class) ≡ None
  end-none more class rest (ends end) is = ap register_class (search-ends fabric more class end is) ∙ turn-none class end is
  end-none more class rest (goes_to turned net) is =
      ap register_class (search-goes fabric more class turned net is) ∙ turned-none turned (end_within fabric more (class_of fabric.joins net)) (rest net)

  within-none : (steps class : ℕ) → register_class (end_within fabric steps class) ≡ None
  unfolding end_within
  within-none zero class = refl
  within-none (suc more) class = end-none more class (λ net. within-none more (class_of fabric.joins net)) (turn_at fabric class) refl

  -- no chain ends at a register
  pub clock_end-alone : (net : ℕ) → register_class (clock_end fabric net) ≡ None
  unfolding clock_end
  clock_end-alone net = within-none (suc fabric.nets) (class_of fabric.joins net)

-- ---- registers at which chains end

-- a class at which chains end is driven by the register at that index, as its first driver
pub record IsRegisterClass (fabric : Fabric) (class place : ℕ) : Type 0 where
  pub register : Register
  pub driven : is_driven fabric class ≡ true
  pub rule : (first-driver fabric class driven).0.rule ≡ register_bit place register
  pub there : Contains (numbered fabric.registers) (place, register)
  pub at : slice_get fabric.registers place ≡ Some register

-- a LUT is no register
through-register : (class place : ℕ) (turned : Bool) (pass : LutPass) → turn_through pass ≡ ends (at_register class place turned) → ⊥
through-register class place turned (holds it) turn = cc
through-register class place turned (follows other net) turn = cc
through-register class place turned mixes turn = cc

taken-register : (taken : Bool) (from at class place : ℕ) (turned : Bool)
    → ends (if taken then at_register from at false else logic) ≡ ends (at_register class place turned) → (from ≡ class) × (at ≡ place)
taken-register true from at class place turned turn = (cc, cc)
taken-register false from at class place turned turn = absurd cc

-- a driver at which a chain ends at a register is that register
rule-register : (connected : ℕ → Bool) (taken : Bool) (from : ℕ) (rule : Rule) (class place : ℕ) (turned : Bool)
    → turn_by connected taken from rule ≡ ends (at_register class place turned) → (from ≡ class) × (register : Register) × (rule ≡ register_bit place register)
rule-register connected taken from (pin_bit at) class place turned turn = absurd cc
rule-register connected taken from (constant it) class place turned turn = absurd cc
rule-register connected taken from (input source) class place turned turn = absurd cc
rule-register connected taken from (table_entry table) class place turned turn = absurd (through-register class place turned (pass_of connected table) turn)
rule-register connected taken from (majority_of a b c) class place turned turn = absurd cc
rule-register connected taken from (register_bit at register) class place turned turn =
    let same = taken-register taken from at class place turned turn in
    (same.0, register, ap (λ k. register_bit k register) same.1)
rule-register connected taken from (read_bit ram bit) class place turned turn = absurd cc
rule-register connected taken from (copied source) class place turned turn = absurd cc

-- a turned chain ends at a register if the chain does
before-turned : (class place : ℕ) (turned by : Bool) (later : ClockEnd) → turned_end by later ≡ at_register class place turned
    → (other : Bool) × (later ≡ at_register class place other)
before-turned class place turned by (at_pin from other) is = absurd cc
before-turned class place turned by (at_register in_class from other) is =
    let same : in_class ≡ class = cc in
    let alike : from ≡ place = cc in
    (other, ap (λ k. at_register k from other) same ∙ ap (λ k. at_register class k other) alike)
before-turned class place turned by (still bit) is = absurd cc
before-turned class place turned by logic is = absurd cc

module _ (fabric : Fabric) (within : IsWithin fabric) where
  ends-register : (class place : ℕ) (turned : Bool) → turn_at fabric class ≡ ends (at_register class place turned) → is_driven fabric class ≡ true
      → IsRegisterClass fabric class place
  ends-register class place turned turn driven =
      let found = first-driver fabric class driven in
      let by_rule : turn_by (is_connected fabric) fabric.register_clocks class found.0.rule ≡ ends (at_register class place turned) =
      sym (turn-first fabric class found.0 found.1 (first-is fabric class found.0 found.1 found.2)) ∙ turn in
      let is = rule-register (is_connected fabric) fabric.register_clocks class found.0.rule class place turned by_rule in
      let there : Contains (numbered fabric.registers) (place, is.1) = subst (HasRegister fabric) is.2 (drive-has fabric within.closed found.0 found.2.there) in
      record { register = is.1; driven = driven; rule = is.2; there = there; at = numbered-slice fabric.registers (place, is.1) there }

  -- the class at which a chain ends is the one whose turn it is
  ends-class : (from class place : ℕ) (turned : Bool) → turn_at fabric from ≡ ends (at_register class place turned) → is_driven fabric from ≡ true → from ≡ class
  ends-class from class place turned turn driven =
      let found = first-driver fabric from driven in
      (rule-register (is_connected fabric) fabric.register_clocks from found.0.rule class place turned
      (sym (turn-first fabric from found.0 found.1 (first-is fabric from found.0 found.1 found.2)) ∙ turn)).0

  ends-at : (from : ℕ) (end : ClockEnd) → turn_at fabric from ≡ ends end → (class place : ℕ) (turned : Bool) → end ≡ at_register class place turned
      → IsRegisterClass fabric class place
  ends-at from end turn class place turned at =
      let here : turn_at fabric from ≡ ends (at_register class place turned) = turn ∙ ap ends at in
      elim (cases_Bool (is_driven fabric from)) [
        | inl driven ↦
            let same = ends-class from class place turned here driven in
            ends-register class place turned (subst (λ k. turn_at fabric k ≡ ends (at_register class place turned)) same here)
            (subst (λ k. is_driven fabric k ≡ true) same driven)
        | inr away ↦ let never : ends (still false) ≡ ends (at_register class place turned) = sym (turn-still fabric from away) ∙ here in absurd cc
      ]

  leads-at : {from : ℕ} {end : ClockEnd} → LeadsTo fabric from end → (class place : ℕ) (turned : Bool) → end ≡ at_register class place turned
      → IsRegisterClass fabric class place
  leads-at {from} {end} (ends_here turn) class place turned at = ends-at from end turn class place turned at
  leads-at (goes_on by net later turn is rest) class place turned at =
      let before = before-turned class place turned by later (sym is ∙ at) in leads-at rest class place before.0 before.1

  -- where a chain ends at a register, the class is driven by it
  pub leads-register : {from class place : ℕ} {turned : Bool} → LeadsTo fabric from (at_register class place turned) → IsRegisterClass fabric class place
  leads-register {class} {place} {turned} leads = leads-at leads class place turned refl

-- ---- the value of a clock

-- the value of the end of a chain, from the values of classes: that of its pin or of the class of its register, or the inverse of it if the
-- chain is turned, or a bit that is always the same
abbrev pub HasChainValue : (ℕ → Bool) → List Bool → ClockEnd → Bool → Type 0
HasChainValue value pins (at_pin place turned) bit = bit ≡ turned_bit turned (get_or pins place false)
HasChainValue value pins (at_register class place turned) bit = bit ≡ turned_bit turned (value class)
HasChainValue value pins (still it) bit = bit ≡ it
HasChainValue value pins logic bit = Unit {0}

turned-twice : (one two bit : Bool) → turned_bit one (turned_bit two bit) ≡ turned_bit (turned_bit one two) bit
turned-twice true true true = refl
turned-twice true true false = refl
turned-twice true false bit = refl
turned-twice false two bit = refl

-- the value of a chain that is turned
turned-value : (value : ℕ → Bool) (pins : List Bool) (turned : Bool) (end : ClockEnd) (bit : Bool) → HasChainValue value pins end bit
    → HasChainValue value pins (turned_end turned end) (turned_bit turned bit)
turned-value value pins turned (at_pin place other) bit is = ap (turned_bit turned) is ∙ turned-twice turned other (get_or pins place false)
turned-value value pins turned (at_register class place other) bit is = ap (turned_bit turned) is ∙ turned-twice turned other (value class)
turned-value value pins turned (still it) bit is = ap (turned_bit turned) is
turned-value value pins turned logic bit is = tt

-- a register ends a chain, as a clock or as logic
register-end : (value : ℕ → Bool) (pins : List Bool) (taken : Bool) (class place : ℕ) (end : ClockEnd)
    → ends (if taken then at_register class place false else logic) ≡ ends end → HasChainValue value pins end (value class)
register-end value pins true class place end turn = let at : at_register class place false ≡ end = cc in subst (λ e. HasChainValue value pins e (value class)) at refl
register-end value pins false class place end turn = let at : logic ≡ end = cc in subst (λ e. HasChainValue value pins e (value class)) at tt

-- The value of the end of a chain: that of its pin or, if each register whose asynchronous set or reset is 1 has its set bit, of its register;
-- the inverse of it if the chain is turned; or a bit that is always the same.
abbrev pub HasEndValue : Fabric → State → (pins v : List Bool) → ClockEnd → Bool → Type 0
HasEndValue fabric state pins v (at_pin place turned) bit = bit ≡ turned_bit turned (get_or pins place false)
HasEndValue fabric state pins v (at_register class place turned) bit =
    settled_state fabric (bit_in v) state ≡ state → bit ≡ turned_bit turned (get_or state.bits place false)
HasEndValue fabric state pins v (still it) bit = bit ≡ it
HasEndValue fabric state pins v logic bit = Unit {0}

module _ (fabric : Fabric) (within : IsWithin fabric) (state : State) (pins v : List Bool) (is : IsConsistent fabric state pins v) where
  -- the value of a rule
  abbrev value : Rule → Bool
  value rule = value_of (is_connected fabric) state pins (bit_in v) rule

  -- the values of classes
  abbrev bit_of : ℕ → Bool
  bit_of class = class_bit fabric within state pins v class

  -- a driver at which a chain ends
  at-logic : (end : ClockEnd) (bit : Bool) → ends logic ≡ ends end → HasChainValue bit_of pins end bit
  at-logic end bit turn = let at : logic ≡ end = cc in subst (λ e. HasChainValue bit_of pins e bit) at tt

  pass-end : (table : LutTable) (pass : LutPass) (end : ClockEnd) → turn_through pass ≡ ends end → HasPassValue (bit_in v) pass (value (table_entry table))
      → HasChainValue bit_of pins end (value (table_entry table))
  pass-end table (holds it) end turn has = let at : still it ≡ end = cc in subst (λ e. HasChainValue bit_of pins e (value (table_entry table))) at has
  pass-end table (follows turned net) end turn has = absurd cc
  pass-end table mixes end turn has = at-logic end (value (table_entry table)) turn

  rule-end : (class : ℕ) (rule : Rule) → bit_of class ≡ value rule → (end : ClockEnd)
      → turn_by (is_connected fabric) fabric.register_clocks class rule ≡ ends end → HasChainValue bit_of pins end (value rule)
  unfolding value_of
  rule-end class (pin_bit place) same end turn = let at : at_pin place false ≡ end = cc in subst (λ e. HasChainValue bit_of pins e (value (pin_bit place))) at refl
  rule-end class (constant it) same end turn = at-logic end (value (constant it)) turn
  rule-end class (input source) same end turn = at-logic end (value (input source)) turn
  rule-end class (table_entry table) same end turn =
      pass-end table (pass_of (is_connected fabric) table) end turn (pass-value (is_connected fabric) state pins (bit_in v) table)
  rule-end class (majority_of a b c) same end turn = at-logic end (value (majority_of a b c)) turn
  rule-end class (register_bit place register) same end turn =
      subst (HasChainValue bit_of pins end) same (register-end bit_of pins fabric.register_clocks class place end turn)
  rule-end class (read_bit ram place) same end turn = at-logic end (value (read_bit ram place)) turn
  rule-end class (copied source) same end turn = absurd cc

  -- a driver from which a chain goes on
  pass-goes : (table : LutTable) (pass : LutPass) (turned : Bool) (net : ℕ) → turn_through pass ≡ goes_to turned net
      → HasPassValue (bit_in v) pass (value (table_entry table)) → value (table_entry table) ≡ turned_bit turned (bit_in v net)
  pass-goes table (holds it) turned net turn has = absurd cc
  pass-goes table (follows other source) turned net turn has =
      let same : source ≡ net = cc in
      let alike : other ≡ turned = cc in
      has ∙ (ap (λ t. turned_bit t (bit_in v source)) alike ∙ ap (λ n. turned_bit turned (bit_in v n)) same)
  pass-goes table mixes turned net turn has = absurd cc

  rule-goes : (class : ℕ) (rule : Rule) (turned : Bool) (net : ℕ) → turn_by (is_connected fabric) fabric.register_clocks class rule ≡ goes_to turned net → value rule ≡ turned_bit turned (bit_in v net)
  unfolding value_of
  rule-goes class (pin_bit place) turned net turn = absurd cc
  rule-goes class (constant it) turned net turn = absurd cc
  rule-goes class (input source) turned net turn = absurd cc
  rule-goes class (table_entry table) turned net turn =
      pass-goes table (pass_of (is_connected fabric) table) turned net turn (pass-value (is_connected fabric) state pins (bit_in v) table)
  rule-goes class (majority_of a b c) turned net turn = absurd cc
  rule-goes class (register_bit place register) turned net turn = absurd cc
  rule-goes class (read_bit ram place) turned net turn = absurd cc
  rule-goes class (copied source) turned net turn =
      let same : source ≡ net = cc in
      let upright : false ≡ turned = cc in
      ap (bit_in v) same ∙ ap (λ t. turned_bit t (bit_in v net)) upright

  -- the bit of a class of joined nets is that of its first driver
  pub first-value : (class : ℕ) (driven : is_driven fabric class ≡ true) → class_bit fabric within state pins v class ≡ value (first-driver fabric class driven).0.rule
  first-value class driven =
      let found = first-driver fabric class driven in
      ap (class_bit fabric within state pins v) (sym (first-class fabric class found.0 found.1 found.2))
      ∙ (sym (net-bit fabric within state pins v is found.0.net) ∙ is.driven found.0 found.2.there)

  chain-value : {class : ℕ} {end : ClockEnd} → LeadsTo fabric class end → HasChainValue bit_of pins end (class_bit fabric within state pins v class)
  chain-value {class} {end} (ends_here turn) =
      elim (cases_Bool (is_driven fabric class)) [
        | inl driven ↦
            let found = first-driver fabric class driven in
            let rule : turn_by (is_connected fabric) fabric.register_clocks class found.0.rule ≡ ends end = sym (turn-first fabric class found.0 found.1 (first-is fabric class found.0 found.1 found.2)) ∙ turn in
            subst (HasChainValue bit_of pins end) (sym (first-value class driven)) (rule-end class found.0.rule (first-value class driven) end rule)
        | inr away ↦
            let turns : ends (still false) ≡ ends end = sym (turn-still fabric class away) ∙ turn in
            let at : still false ≡ end = cc in
            subst (λ e. HasChainValue bit_of pins e (class_bit fabric within state pins v class)) at (class-still fabric within state pins v class away)
      ]
  chain-value {class} {end} (goes_on turned net later turn at rest) =
      elim (cases_Bool (is_driven fabric class)) [
        | inl driven ↦
            let found = first-driver fabric class driven in
            let rule : turn_by (is_connected fabric) fabric.register_clocks class found.0.rule ≡ goes_to turned net =
            sym (turn-first fabric class found.0 found.1 (first-is fabric class found.0 found.1 found.2)) ∙ turn in
            let same : class_bit fabric within state pins v class ≡ turned_bit turned (class_bit fabric within state pins v (class_of fabric.joins net)) =
            first-value class driven ∙ (rule-goes class found.0.rule turned net rule ∙ ap (turned_bit turned) (net-bit fabric within state pins v is net)) in
            let ended : HasChainValue bit_of pins end (turned_bit turned (class_bit fabric within state pins v (class_of fabric.joins net))) =
            subst (λ e. HasChainValue bit_of pins e (turned_bit turned (class_bit fabric within state pins v (class_of fabric.joins net)))) (sym at)
            (turned-value bit_of pins turned later (class_bit fabric within state pins v (class_of fabric.joins net)) (chain-value rest)) in
            subst (HasChainValue bit_of pins end) (sym same) ended
        | inr away ↦ let never : ends (still false) ≡ goes_to turned net = sym (turn-still fabric class away) ∙ turn in absurd cc
      ]

  -- a net has the value of the end of its chain, from the values of classes
  net-value : (net : ℕ) (end : ClockEnd) → LeadsTo fabric (class_of fabric.joins net) end → HasChainValue bit_of pins end (bit_in v net)
  net-value net end leads = subst (HasChainValue bit_of pins end) (sym (net-bit fabric within state pins v is net)) (chain-value leads)

  -- a net whose chain ends at a register has the value of the register's class, or the inverse of it if the chain is turned
  pub clock-class : (net class place : ℕ) (turned : Bool) → LeadsTo fabric (class_of fabric.joins net) (at_register class place turned)
      → bit_in v net ≡ turned_bit turned (class_bit fabric within state pins v class)
  clock-class net class place turned leads = net-value net (at_register class place turned) leads

  -- if each register whose asynchronous set or reset is 1 has its set bit, a class at which chains end has the bit of its register
  pub register-value : {class place : ℕ} {turned : Bool} {from : ℕ} → LeadsTo fabric from (at_register class place turned)
      → settled_state fabric (bit_in v) state ≡ state → class_bit fabric within state pins v class ≡ get_or state.bits place false
  unfolding value_of settled_state
  register-value {class} {place} leads settles =
      let at = leads-register fabric within leads in
      first-value class at.driven
      ∙ (ap value at.rule
      ∙ (sym (settled_bits-at fabric (bit_in v) state.bits (place, at.register) at.there)
      ∙ ap (λ (s : State). get_or s.bits place false) settles))

  -- a net has the value of the end of its chain
  pub clock-value : (net : ℕ) (end : ClockEnd) → LeadsTo fabric (class_of fabric.joins net) end → HasEndValue fabric state pins v end (bit_in v net)
  clock-value net (at_pin place turned) leads = net-value net (at_pin place turned) leads
  clock-value net (at_register class place turned) leads =
      λ settles. clock-class net class place turned leads ∙ ap (turned_bit turned) (register-value leads settles)
  clock-value net (still it) leads = net-value net (still it) leads
  clock-value net logic leads = tt
