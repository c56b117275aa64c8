-- How a state settles: to settle twice is to settle once, and the values of nets don't see it.
use Rattle.std.proofs.Common.{◌≡◌, ℕ, zero, suc, ◌+◌, ◌&&◌, Bool, true, false, List, [], ◌∷◌, map, get_or, refl, sym, ap, ◌∙◌, arith, inl, inr}
use Rattle.std.specs.Prelude.{All, Contains, slice_get, Option, Some, None, filter, flat_map, not, if◌then◌else◌}
use Rattle.std.proofs.lemmas.Bool.{cases_Bool}
use Rattle.std.proofs.lemmas.List.Elements.{All-nil, All-cons, All-append, All-contains, All-contains_itself, All-weaker}
use Rattle.shared_lemmas.proofs.Lists.{map-same}
use Rattle.fabric_model.specs.declared.register.Register.{Register}
use Rattle.fabric_model.specs.declared.ram.RamCell.{RamCell}
use Rattle.fabric_model.specs.declared.pin.Pin.{Pin}
use Rattle.fabric_model.specs.declared.pin.GlobalFrom.{GlobalFrom}
use Rattle.fabric_model.specs.declared.pin.GlobalFrom.TheVariants.{Pad, Pll, Fabout}
use Rattle.fabric_model.specs.declared.pll.PllSource.{PllSource}
use Rattle.fabric_model.specs.declared.driver.Driver.{Driver}
use Rattle.fabric_model.specs.declared.register.RegisterKind.{RegisterKind}
use Rattle.fabric_model.specs.declared.signal.Signal.{Signal}
use Rattle.fabric_model.specs.declared.signal.Signal.TheVariants as signal
use Rattle.fabric_model.specs.declared.register.LutTable.{LutTable}
use Rattle.fabric_model.specs.Signals.{net_or_0}
use Rattle.fabric_model.specs.Fabric.{Fabric, numbered_from, numbered}
use Rattle.fabric_model.specs.Registers.{table_of}
use Rattle.fabric_model.specs.PinTypes.{has_table}
use Rattle.fabric_model.specs.Pins.{drives, is_switched, has_outside}
use Rattle.fabric_model.specs.Outputs.{Output, enable_outputs, pin_outputs, outputs_of}
use Rattle.fabric_model.specs.Drivers.{Rule, Drive, drives_if, drives_by, pin_drives, data_of, pad_of, enable_of, is_read_back, back_drives, lut_drives, flip_driver, lout_drives, carry_drives, set_drives, read_data_rule, ram_drive, ram_drives, global_rule, global_drives, buffer_drives, input_driver, second_driver, data_table, data_drives, pad_table, pad_drives, pll_drives, drives_of}
use Rattle.fabric_model.specs.Drivers.Rule.{pin_bit, constant, input, table_entry, majority_of, register_bit, read_bit, copied}
use Rattle.fabric_model.specs.Values.{State, input_or_0, settled_bit, signal_value, table_input, lut_value, value_of, bit_in, is_connected, IsConsistent}
use Rattle.fabric_model.specs.Steps.{settled_bits, settled_state, output_values}
use Rattle.fabric_model.specs.Within.{IsClosed}
use Rattle.fabric_model.proofs.Within.{All-flat_map, All-if, All-single, if-when, All-filtered}
use Rattle.fabric_model.proofs.Signals.{IsSignalThere, signal-there, item-at, data-there, enable-there, back-there, data_table-there, pad_table-there, cell-signals}
use Rattle.fabric_model.proofs.Apart.{All-every}

-- ---- items at their places

numbered-place : {A : Type 0} (n : ℕ) (items : List A) (pair : ℕ × A) (there : Contains (numbered_from n items) pair) → pair.0 ≡ n + there.0
unfolding numbered_from
numbered-place n [] pair (k, within, here) = absurd (omega (arith, within))
numbered-place {A} n (item ∷ items) pair (zero, within, here) = ap (λ (p : ℕ × A). p.0) (sym here) ∙ (let same : n ≡ n + 0 = omega arith in same)
numbered-place n (item ∷ items) pair (suc k, within, here) =
    numbered-place (suc n) items pair (k, omega (arith, within), here) ∙ (let same : suc n + k ≡ n + suc k = omega arith in same)

map-read : {X Y : Type 0} (give : X → Y) (d : Y) (list : List X) (item : X) (there : Contains list item) → get_or (map give list) there.0 d ≡ give item
map-read give d [] item (k, within, here) = absurd (omega (arith, within))
map-read give d (head ∷ list) item (zero, within, here) = ap give here
map-read give d (head ∷ list) item (suc k, within, here) = map-read give d list item (k, omega (arith, within), here)

-- what is given for each item with its place stands at that place
pub numbered-read : {A B : Type 0} (give : ℕ × A → B) (d : B) (items : List A) (pair : ℕ × A) → Contains (numbered items) pair
    → get_or (map give (numbered items)) pair.0 d ≡ give pair
numbered-read give d items pair there =
    let at : pair.0 ≡ there.0 = numbered-place 0 items pair there ∙ (let same : 0 + there.0 ≡ there.0 = omega arith in same) in
    ap (λ k. get_or (map give (numbered items)) k d) at ∙ map-read give d (numbered items) pair there

slice-there : {A : Type 0} (n : ℕ) (items : List A) (pair : ℕ × A) (there : Contains (numbered_from n items) pair) → slice_get items there.0 ≡ Some pair.1
unfolding numbered_from
slice-there n [] pair (k, within, here) = absurd (omega (arith, within))
slice-there {A} n (item ∷ items) pair (zero, within, here) = ap (λ (p : ℕ × A). Some p.1) here
slice-there n (item ∷ items) pair (suc k, within, here) = slice-there (suc n) items pair (k, omega (arith, within), here)

-- an item with its place stands at that place
pub numbered-slice : {A : Type 0} (items : List A) (pair : ℕ × A) → Contains (numbered items) pair → slice_get items pair.0 ≡ Some pair.1
numbered-slice items pair there =
    let at : pair.0 ≡ there.0 = numbered-place 0 items pair there ∙ (let same : 0 + there.0 ≡ there.0 = omega arith in same) in
    ap (slice_get items) at ∙ slice-there 0 items pair there

item-there : {A : Type 0} (n : ℕ) (items : List A) (pair : ℕ × A) → Contains (numbered_from n items) pair → Contains items pair.1
unfolding numbered_from
item-there n [] pair (k, within, here) = absurd (omega (arith, within))
item-there {A} n (item ∷ items) pair (zero, within, here) = (0, omega arith, ap (λ (p : ℕ × A). p.1) here)
item-there n (item ∷ items) pair (suc k, within, here) =
    let rest = item-there (suc n) items pair (k, omega (arith, within), here) in (suc rest.0, omega (arith, rest.1), rest.2)

-- and is one of the items
pub numbered-item : {A : Type 0} (items : List A) (pair : ℕ × A) → Contains (numbered items) pair → Contains items pair.1
numbered-item items pair there = item-there 0 items pair there

-- ---- one register

pub settled-again : (connected bit : ℕ → Bool) (register : Register) (old : Bool)
    → settled_bit connected bit register (settled_bit connected bit register old) ≡ settled_bit connected bit register old
unfolding settled_bit
settled-again connected bit register old =
    elim (cases_Bool (register.is_async && input_or_0 connected bit register.sr)) [
      | inl resets ↦ rw resets refl
      | inr stays ↦ rw stays refl
    ]

-- ---- a state settles

module _ (fabric : Fabric) (bit : ℕ → Bool) where
  -- the register at a place has settled
  pub settled_bits-at : (bits : List Bool) (place : ℕ × Register) → Contains (numbered fabric.registers) place
      → get_or (settled_bits fabric bit bits) place.0 false ≡ settled_bit (is_connected fabric) bit place.1 (get_or bits place.0 false)
  settled_bits-at bits place there =
      numbered-read (λ (p : ℕ × Register). settled_bit (is_connected fabric) bit p.1 (get_or bits p.0 false)) false fabric.registers place there

  bits-twice : (bits : List Bool) → settled_bits fabric bit (settled_bits fabric bit bits) ≡ settled_bits fabric bit bits
  bits-twice bits =
      let once = λ (p : ℕ × Register). settled_bit (is_connected fabric) bit p.1 (get_or bits p.0 false) in
      let twice = λ (p : ℕ × Register). settled_bit (is_connected fabric) bit p.1 (get_or (settled_bits fabric bit bits) p.0 false) in
      map-same twice once (numbered fabric.registers)
      (All-weaker (Contains (numbered fabric.registers)) (λ p. twice p ≡ once p)
      (λ p there. ap (settled_bit (is_connected fabric) bit p.1) (settled_bits-at bits p there) ∙ settled-again (is_connected fabric) bit p.1 (get_or bits p.0 false))
      (numbered fabric.registers) (All-contains_itself (numbered fabric.registers)))

  -- to settle twice is to settle once
  pub settled-twice : (state : State) → settled_state fabric bit (settled_state fabric bit state) ≡ settled_state fabric bit state
  unfolding settled_state
  settled-twice state = let bits = bits-twice state.bits in λ i. record { bits = bits i; reads = state.reads; words = state.words }

-- ---- the registers that drive nets are those of the fabric

-- a driver that is a register is that at its place, one that reads a RAM reads one that is there, and what inputs read is there
abbrev pub HasRegister : Fabric → Rule → Type 0
HasRegister fabric (register_bit place register) = Contains (numbered fabric.registers) (place, register)
HasRegister fabric (read_bit place bit) = (ram : RamCell) × Contains (numbered fabric.rams) (place, ram)
HasRegister fabric (input source) = IsSignalThere fabric source
HasRegister fabric (table_entry table) = All (IsSignalThere fabric) table.ins
HasRegister fabric rule = Unit {0}

module _ (fabric : Fabric) (closed : IsClosed fabric) where
  abbrev DriveHas : Drive → Type 0
  DriveHas drive = HasRegister fabric drive.rule

  drives_if-has : (by : Driver) (rule : Rule) (net : Option ℕ) → HasRegister fabric rule → All DriveHas (drives_if by rule net)
  drives_if-has by rule None has = All-nil DriveHas
  drives_if-has by rule (Some net) has = All-single DriveHas (record { driver = by; net = net; rule = rule }) has

  global-has : (pins : List Pin) (plls : List PllSource) (from : GlobalFrom) → HasRegister fabric (global_rule pins plls from)
  global-has pins plls (Pad x y n) = tt
  global-has pins plls (Pll x y output) = tt
  global-has pins plls (Fabout net) = tt

  each-has : {X : Type 0} (given : X → List Drive) → ((x : X) → All DriveHas (given x)) → (parts : List X) → All DriveHas (flat_map given parts)
  each-has given has parts = All-flat_map DriveHas given parts (All-every (λ x. All DriveHas (given x)) has parts)

  pin_drives-has : (pins : List Pin) (pin : Pin) → All DriveHas (pin_drives pins pin)
  pin_drives-has pins pin = All-if DriveHas _ _ (drives_if-has _ (pin_bit _) pin.din_0 tt)

  -- one rule or another
  has_if : (passes : Bool) (one other : Rule) → HasRegister fabric one → HasRegister fabric other → HasRegister fabric (if passes then one else other)
  has_if true one other of_one of_other = of_one
  has_if false one other of_one of_other = of_other

  -- what pins drive, each of those of the fabric
  pins-have : (given : Pin → List Drive) → ((pin : Pin) → Contains fabric.pins pin → All DriveHas (given pin)) → All DriveHas (flat_map given fabric.pins)
  pins-have given each =
      All-flat_map DriveHas given fabric.pins (All-weaker (Contains fabric.pins) (λ pin. All DriveHas (given pin)) each fabric.pins (All-contains_itself fabric.pins))

  back_drives-has : (pin : Pin) → Contains fabric.pins pin → All DriveHas (back_drives fabric pin)
  back_drives-has pin there =
      if-when DriveHas (is_read_back pin) _ (λ read. drives_if-has _ (input (pad_of fabric pin)) pin.din_0 (back-there fabric closed pin there read))

  data_drives-has : (pin : Pin) → Contains fabric.pins pin → All DriveHas (data_drives fabric pin)
  data_drives-has pin there =
      if-when DriveHas (drives pin && has_table pin.sends) _
      (λ made. drives_if-has _ (table_entry (data_table fabric pin)) pin.data_net (data_table-there fabric closed pin there made))

  pad_drives-has : (pin : Pin) → Contains fabric.pins pin → All DriveHas (pad_drives fabric pin)
  pad_drives-has pin there =
      if-when DriveHas (has_outside pin) _ (λ seen. drives_if-has _ (table_entry (pad_table fabric pin)) pin.pad_net (pad_table-there fabric closed pin there seen))

  ram_drives-has : (place : ℕ × RamCell) → Contains (numbered fabric.rams) place → All DriveHas (ram_drives place)
  ram_drives-has place there =
      each-has (ram_drive place)
      (λ port. drives_if-has _ (read_data_rule place.0 place.1.read port.0) port.1 (has_if _ (read_bit place.0 _) (constant false) (place.1, there) tt)) (numbered place.1.rdata)

  rams-have : All DriveHas (flat_map ram_drives (numbered fabric.rams))
  rams-have =
      All-flat_map DriveHas ram_drives (numbered fabric.rams)
      (All-weaker (Contains (numbered fabric.rams)) (λ (place : ℕ × RamCell). All DriveHas (ram_drives place))
      ram_drives-has (numbered fabric.rams) (All-contains_itself (numbered fabric.rams)))

  drives_by-has : (place : ℕ × Register) (by : Option Driver) → Contains (numbered fabric.registers) place → All DriveHas (drives_by place by)
  drives_by-has place None there = All-nil DriveHas
  drives_by-has place (Some by) there = drives_if-has by (register_bit place.0 place.1) place.1.out there

  -- what the registers drive that are drivers of some kind
  registers-have : (driver_of : Register → RegisterKind → Option Driver)
      → All DriveHas (flat_map (λ (place : ℕ × Register). drives_by place (driver_of place.1 place.1.kind)) (numbered fabric.registers))
  registers-have driver_of =
      let given = λ (place : ℕ × Register). drives_by place (driver_of place.1 place.1.kind) in
      All-flat_map DriveHas given (numbered fabric.registers)
      (All-weaker (Contains (numbered fabric.registers)) (λ (place : ℕ × Register). All DriveHas (given place))
      (λ place there. drives_by-has place (driver_of place.1 place.1.kind) there) (numbered fabric.registers) (All-contains_itself (numbered fabric.registers)))

  drives-have : All DriveHas (drives_of fabric)
  unfolding drives_of
  drives-have =
      let joins = All-append DriveHas in
      joins _ _ (each-has (pin_drives fabric.pins) (pin_drives-has fabric.pins) fabric.pins)
      (joins _ _ (pins-have (back_drives fabric) back_drives-has)
      (joins _ _ (each-has (lut_drives fabric.lut_inputs) (λ lc. drives_if-has _ (table_entry (table_of fabric.lut_inputs lc)) lc.out (cell-signals fabric fabric.lut_inputs lc)) (filter (λ lc. not lc.flip) fabric.lcs))
      (joins _ _ (registers-have flip_driver)
      (joins _ _ (each-has (lout_drives fabric.lut_inputs) (λ lc. drives_if-has _ (table_entry (table_of fabric.lut_inputs lc)) lc.lout (cell-signals fabric fabric.lut_inputs lc)) fabric.lcs)
      (joins _ _ (each-has carry_drives (λ lc. drives_if-has _ (majority_of (get_or lc.ins 1 None) (get_or lc.ins 2 None) lc.cin) lc.cout tt) (filter (λ lc. lc.carry) fabric.lcs))
      (joins _ _ (each-has set_drives (λ set. drives_if-has _ (constant true) (Some set.net) tt) fabric.sets)
      (joins _ _ rams-have
      (joins _ _ (each-has (global_drives fabric.pins fabric.plls) (λ global. drives_if-has _ (global_rule fabric.pins fabric.plls global.from) (Some global.net) (global-has fabric.pins fabric.plls global.from)) fabric.globals)
      (joins _ _ (each-has buffer_drives (λ buffer. drives_if-has _ (copied buffer.src) (Some buffer.dst) tt) fabric.buffers)
      (joins _ _ (registers-have input_driver)
      (joins _ _ (registers-have second_driver)
      (joins _ _ (pins-have (data_drives fabric) data_drives-has)
      (joins _ _ (pins-have (pad_drives fabric) pad_drives-has)
      (each-has (pll_drives fabric.pins fabric.plls) (λ port. drives_if-has _ (pin_bit _) port.net tt) fabric.plls))))))))))))))

  pub drive-has : (drive : Drive) → Contains (drives_of fabric) drive → HasRegister fabric drive.rule
  drive-has drive there = All-contains DriveHas (drives_of fabric) drive drives-have there

  -- what outputs read is there
  abbrev pub OutputHas : Output → Type 0
  OutputHas output = IsSignalThere fabric output.source

  pub outputs-have : All OutputHas (outputs_of fabric)
  unfolding outputs_of
  outputs-have =
      All-flat_map OutputHas (pin_outputs fabric) (filter drives fabric.pins)
      (All-filtered (λ pin. All OutputHas (pin_outputs fabric pin)) drives fabric.pins
      (All-weaker (Contains fabric.pins) (λ pin. drives pin ≡ true → All OutputHas (pin_outputs fabric pin))
      (λ pin there driven. All-cons OutputHas (record { pin = pin; enable = false; source = data_of fabric pin }) (enable_outputs fabric pin) (data-there fabric closed pin there driven)
      (if-when OutputHas (is_switched pin) _
      (λ switched. All-single OutputHas (record { pin = pin; enable = true; source = enable_of fabric pin }) (enable-there fabric closed pin there switched)))) fabric.pins (All-contains_itself fabric.pins)))

  -- ---- values while a state settles

  module _ (bit : ℕ → Bool) where
    -- what inputs read stays as it is
    signal-settled : (state : State) (pins : List Bool) (source : Signal) → IsSignalThere fabric source
        → signal_value (is_connected fabric) (settled_state fabric bit state) pins bit source ≡ signal_value (is_connected fabric) state pins bit source
    unfolding settled_state settled_bit
    signal-settled state pins (signal.Net net otherwise) there = refl
    signal-settled state pins (signal.Input place) there = refl
    signal-settled state pins (signal.Register place) there =
        let at = item-at fabric.registers place there.0 in
        let steady : at.0.is_async ≡ false = sym (at.1.tested (λ register. register.is_async)) ∙ there.1 in
        settled_bits-at fabric bit state.bits (place, at.0) at.1.numbered ∙ (rw steady refl)

    table-settled : (state : State) (pins : List Bool) (table : LutTable) (k : ℕ) → All (IsSignalThere fabric) table.ins
        → table_input (is_connected fabric) (settled_state fabric bit state) pins bit table k ≡ table_input (is_connected fabric) state pins bit table k
    table-settled state pins table k all = signal-settled state pins (get_or table.ins k (net_or_0 None)) (signal-there fabric table.ins k all)

    -- the value of a driver doesn't see it
    pub value-settled : (state : State) (pins : List Bool) (rule : Rule) → HasRegister fabric rule
        → value_of (is_connected fabric) (settled_state fabric bit state) pins bit rule ≡ value_of (is_connected fabric) state pins bit rule
    unfolding value_of settled_state lut_value
    value-settled state pins (pin_bit place) has = refl
    value-settled state pins (constant it) has = refl
    value-settled state pins (input source) has = signal-settled state pins source has
    value-settled state pins (table_entry table) has =
        rw (table-settled state pins table 0 has, table-settled state pins table 1 has, table-settled state pins table 2 has, table-settled state pins table 3 has) refl
    value-settled state pins (majority_of a b c) has = refl
    value-settled state pins (register_bit place register) has =
        ap (settled_bit (is_connected fabric) bit register) (settled_bits-at fabric bit state.bits (place, register) has)
        ∙ settled-again (is_connected fabric) bit register (get_or state.bits place false)
    value-settled state pins (read_bit ram place) has = refl
    value-settled state pins (copied net) has = refl

  -- and neither do the values of outputs
  pub outputs-settled : (state : State) (pins v : List Bool)
      → output_values fabric (settled_state fabric (bit_in v) state) pins v ≡ output_values fabric state pins v
  unfolding output_values
  outputs-settled state pins v =
      let settled = λ (output : Output). signal_value (is_connected fabric) (settled_state fabric (bit_in v) state) pins (bit_in v) output.source in
      let raw = λ (output : Output). signal_value (is_connected fabric) state pins (bit_in v) output.source in
      map-same settled raw (outputs_of fabric)
      (All-weaker OutputHas (λ output. settled output ≡ raw output)
      (λ output has. signal-settled (bit_in v) state pins output.source has) (outputs_of fabric) outputs-have)

  -- values of nets that are consistent with a state are so with what it settles to
  pub consistent-settled : (state : State) (pins v : List Bool) → IsConsistent fabric state pins v → IsConsistent fabric (settled_state fabric (bit_in v) state) pins v
  consistent-settled state pins v is = record {
    each_net = is.each_net;
    joined = is.joined;
    driven = λ drive there. is.driven drive there ∙ sym (value-settled (bit_in v) state pins drive.rule (drive-has drive there));
    not_driven = is.not_driven;
  }

  -- and back
  pub consistent-unsettled : (state : State) (pins v : List Bool) → IsConsistent fabric (settled_state fabric (bit_in v) state) pins v → IsConsistent fabric state pins v
  consistent-unsettled state pins v is = record {
    each_net = is.each_net;
    joined = is.joined;
    driven = λ drive there. is.driven drive there ∙ value-settled (bit_in v) state pins drive.rule (drive-has drive there);
    not_driven = is.not_driven;
  }
