-- Fabrics that are alike: whichever inputs LUTs read, the values of nets, the runs and the clocks are the same.
use Rattle.std.proofs.Common.{◌≡◌, ℕ, zero, suc, Bool, false, List, [], ◌∷◌, ◌++◌, length, map, get_or, replicate, refl, sym, ap, ap₂, ◌∙◌, subst}
use Rattle.std.specs.Prelude.{filter, flat_map, not, ◌&&◌, ◌==◌, is_some, Option, Some, None, if◌then◌else◌}
use Rattle.std.specs.List.{list_any, AllZip}
use Rattle.ice_image.specs.Configuration.{Configuration}
use Rattle.chipdb_reader.specs.Database.{Database}
use Rattle.chipdb_reader.specs.Fit.{IsFit}
use Rattle.fabric_model.specs.declared.cell.LogicCell.{LogicCell}
use Rattle.fabric_model.specs.declared.lut_inputs.LutInputs.{LutInputs}
use Rattle.fabric_model.specs.declared.lut_inputs.LutInputs.TheVariants as read
use Rattle.fabric_model.specs.declared.driver.Driver.{Driver}
use Rattle.fabric_model.specs.declared.register.PinRegister.TheVariants as kind
use Rattle.fabric_model.specs.declared.register.RegisterKind.{RegisterKind}
use Rattle.fabric_model.specs.declared.register.RegisterKind.TheVariants.{FlipFlop, OfPin}
use Rattle.fabric_model.specs.declared.register.Register.{Register}
use Rattle.fabric_model.specs.declared.register.LutTable.{LutTable}
use Rattle.fabric_model.specs.declared.ram.RamCell.{RamCell}
use Rattle.fabric_model.specs.Unique.{ExactlyOne}
use Rattle.fabric_model.specs.Joins.{class_of}
use Rattle.fabric_model.specs.Cells.{cells_of}
use Rattle.fabric_model.specs.declared.options.FabricOptions.{FabricOptions}
use Rattle.fabric_model.specs.Pins.{pins_of}
use Rattle.fabric_model.specs.Registers.{table_of, register_of, flips_among, registers_of, pin_registers_of}
use Rattle.fabric_model.specs.Fabric.{Fabric, numbered, inputs_of, fabric_with, reading_all}
use Rattle.fabric_model.specs.Outputs.{outputs_of}
use Rattle.fabric_model.specs.Drivers.{Rule, Drive, drives_if, drives_by, pin_drives, back_drives, lut_drives, flip_driver, lout_drives, carry_drives, set_drives, ram_drives, global_drives, buffer_drives, input_driver, second_driver, data_drives, pad_drives, pll_drives, drives_of, is_driver_of, drivers_of, is_driven}
use Rattle.fabric_model.specs.Drivers.Rule.{table_entry, register_bit}
use Rattle.fabric_model.specs.Values.{State, signal_value, lut_value, settled_bit, value_of, bit_in, is_connected, IsConsistent}
use Rattle.fabric_model.specs.Steps.{has_edge, Edges, is_on_register, event_edges, wave_edges, next_bit, bit_after, words_after, read_after, state_after, settled_state, start_state, output_values, Event, Entry, IsEntry, IsFirstStep, IsWave, clocked_users, has_wave, wave_bound, EndsAt, Follows, FollowEach, IsFirst, IsRun}
use Rattle.fabric_model.specs.Steps.EndsAt.{bound, rests, goes_on as more_waves}
use Rattle.fabric_model.specs.Clocks.{ClockEnd, Turn, turn_through, turn_by, turn_of, turn_at, LeadsTo, end_by, end_within, clock_end, register_class, clock_class}
use Rattle.fabric_model.specs.Clocks.ClockEnd.{at_register, logic}
use Rattle.fabric_model.specs.Clocks.Turn.{ends}
use Rattle.fabric_model.specs.Clocks.LeadsTo.{ends_here, goes_on}
use Rattle.fabric_model.specs.Faults.{design_fault}
use Rattle.fabric_model.proofs.Paired.{pairs-same, pairs-append, pairs-made, pairs-flat_map, pairs-each, pairs-numbered, pairs-give, pairs-length, pairs-any, pairs-filter, pairs-first, pairs-flip}
use Rattle.fabric_model.proofs.UsedInputs.{read-value}
use Rattle.fabric_model.proofs.ClockLuts.{read-pass}
use Rattle.fabric_model.proofs.Within.{fabric-within}
use Rattle.fabric_model.proofs.Taken.{design-taken, taken-value}
use Rattle.fabric_model.proofs.Runs.{taken-run, fabric-placed}

-- ---- what is alike

-- two registers differ in their tables alone, and these have the same value
pub record RegistersAlike (one two : Register) : Type 0 where
  pub rest : record one { table = two.table } ≡ two
  pub value : (connected : ℕ → Bool) (state : State) (pins : List Bool) (bit : ℕ → Bool)
      → lut_value connected state pins bit one.table ≡ lut_value connected state pins bit two.table

-- two rules have the same value, and a clock chain does the same at them
pub record RulesAlike (one two : Rule) : Type 0 where
  pub value : (connected : ℕ → Bool) (state : State) (pins : List Bool) (bit : ℕ → Bool) → value_of connected state pins bit one ≡ value_of connected state pins bit two
  pub turn : (connected : ℕ → Bool) (taken : Bool) (class : ℕ) → turn_by connected taken class one ≡ turn_by connected taken class two

pub record DrivesAlike (one two : Drive) : Type 0 where
  pub net : one.net ≡ two.net
  pub rule : RulesAlike one.rule two.rule

rule-itself : (rule : Rule) → RulesAlike rule rule
rule-itself rule = record { value = λ connected state pins bit. refl; turn = λ connected taken class. refl }

drive-itself : (drive : Drive) → DrivesAlike drive drive
drive-itself drive = record { net = refl; rule = rule-itself drive.rule }

-- ---- registers

module _ (one two : Register) (alike : RegistersAlike one two) where
  -- what looks at no table is the same
  pub register-field : {X : Type 0} (give : Register → X) → give one ≡ give (record one { table = two.table }) → give one ≡ give two
  register-field give kept = kept ∙ ap give alike.rest

  pub settled_bit-alike : (connected bit : ℕ → Bool) (old : Bool) → settled_bit connected bit one old ≡ settled_bit connected bit two old
  unfolding settled_bit
  settled_bit-alike connected bit old = register-field (λ r. settled_bit connected bit r old) refl

  next_bit-alike : (connected : ℕ → Bool) (state : State) (pins : List Bool) (bit : ℕ → Bool) (old : Bool)
      → next_bit connected state pins bit one old ≡ next_bit connected state pins bit two old
  unfolding next_bit
  next_bit-alike connected state pins bit old = register-field (λ r. next_bit connected state pins bit r old) (rw (alike.value connected state pins bit) refl)

-- two places among the registers
abbrev PlacesAlike : ℕ × Register → ℕ × Register → Type 0
PlacesAlike one two = (one.0 ≡ two.0) × RegistersAlike one.1 two.1

register_bit-alike : (one two : ℕ × Register) → PlacesAlike one two → RulesAlike (register_bit one.0 one.1) (register_bit two.0 two.1)
unfolding value_of
register_bit-alike one two alike = record {
  value = λ connected state pins bit.
      settled_bit-alike one.1 two.1 alike.1 connected bit (get_or state.bits one.0 false)
      ∙ ap (λ place. settled_bit connected bit two.1 (get_or state.bits place false)) alike.0;
  turn = λ connected taken class. ap (λ place. ends (if taken then at_register class place false else logic)) alike.0;
}

-- ---- drivers

drives_if-alike : (by : Driver) (one two : Rule) (net : Option ℕ) → RulesAlike one two → AllZip DrivesAlike (drives_if by one net) (drives_if by two net)
drives_if-alike by one two None alike = tt
drives_if-alike by one two (Some net) alike = (record { net = refl; rule = alike }, tt)

drives_by-alike : (one two : ℕ × Register) → PlacesAlike one two → (by : Option Driver) → AllZip DrivesAlike (drives_by one by) (drives_by two by)
drives_by-alike one two alike None = tt
drives_by-alike one two alike (Some by) =
    subst (λ net. AllZip DrivesAlike (drives_if by (register_bit one.0 one.1) one.1.out) (drives_if by (register_bit two.0 two.1) net))
    (register-field one.1 two.1 alike.1 (λ r. r.out) refl)
    (drives_if-alike by (register_bit one.0 one.1) (register_bit two.0 two.1) one.1.out (register_bit-alike one two alike))

-- what drives the registers that are drivers of some kind
module _ (driver_of : Register → RegisterKind → Option Driver)
    (kept : (register : Register) (table : LutTable) (kind : RegisterKind) → driver_of register kind ≡ driver_of (record register { table = table }) kind) where
  abbrev given : ℕ × Register → List Drive
  given place = drives_by place (driver_of place.1 place.1.kind)

  given-alike : (one two : ℕ × Register) → PlacesAlike one two → AllZip DrivesAlike (given one) (given two)
  given-alike one two alike =
      subst (λ by. AllZip DrivesAlike (given one) (drives_by two by))
      (register-field one.1 two.1 alike.1 (λ r. driver_of r r.kind) (kept one.1 two.1.table one.1.kind))
      (drives_by-alike one two alike (driver_of one.1 one.1.kind))

  registers-drive : (one two : List Register) → AllZip RegistersAlike one two → AllZip DrivesAlike (flat_map given (numbered one)) (flat_map given (numbered two))
  registers-drive one two alike =
      pairs-flat_map DrivesAlike PlacesAlike given given given-alike (numbered one) (numbered two) (pairs-numbered RegistersAlike 0 one two alike)

flip-kept : (register : Register) (table : LutTable) (is : RegisterKind) → flip_driver register is ≡ flip_driver (record register { table = table }) is
flip-kept register table (FlipFlop i) = refl
flip-kept register table (OfPin n of_pin) = refl

input-kept : (register : Register) (table : LutTable) (is : RegisterKind) → input_driver register is ≡ input_driver (record register { table = table }) is
input-kept register table (FlipFlop i) = refl
input-kept register table (OfPin n kind.Input) = refl
input-kept register table (OfPin n of_pin) = refl

second-kept : (register : Register) (table : LutTable) (is : RegisterKind) → second_driver register is ≡ second_driver (record register { table = table }) is
second-kept register table (FlipFlop i) = refl
second-kept register table (OfPin n kind.SecondInput) = refl
second-kept register table (OfPin n of_pin) = refl

table-alike : (one two : LutInputs) (lc : LogicCell) → RulesAlike (table_entry (table_of one lc)) (table_entry (table_of two lc))
unfolding value_of
table-alike one two lc = record {
  value = λ connected state pins bit. read-value connected state pins bit one lc ∙ sym (read-value connected state pins bit two lc);
  turn = λ connected taken class. ap turn_through (read-pass connected lc one ∙ sym (read-pass connected lc two));
}

-- ---- a fabric whose LUTs read other inputs

module _ (fabric : Fabric) (inputs : LutInputs) (registers : List Register) (alike : AllZip RegistersAlike fabric.registers registers) where
  abbrev other : Fabric
  other = record fabric { lut_inputs = inputs; registers = registers }

  drives-alike : AllZip DrivesAlike (drives_of fabric) (drives_of other)
  unfolding drives_of
  drives-alike =
      let join = pairs-append DrivesAlike in
      let same = pairs-same DrivesAlike drive-itself in
      join _ _ _ _ (same (flat_map (pin_drives fabric.pins) fabric.pins))
      (join _ _ _ _ (same (flat_map (back_drives fabric) fabric.pins))
      (join _ _ _ _ (pairs-each DrivesAlike (lut_drives fabric.lut_inputs) (lut_drives inputs)
      (λ lc. drives_if-alike _ _ _ lc.out (table-alike fabric.lut_inputs inputs lc)) (filter (λ lc. not lc.flip) fabric.lcs))
      (join _ _ _ _ (registers-drive flip_driver flip-kept fabric.registers registers alike)
      (join _ _ _ _ (pairs-each DrivesAlike (lout_drives fabric.lut_inputs) (lout_drives inputs)
      (λ lc. drives_if-alike _ _ _ lc.lout (table-alike fabric.lut_inputs inputs lc)) fabric.lcs)
      (join _ _ _ _ (same (flat_map carry_drives (filter (λ lc. lc.carry) fabric.lcs)))
      (join _ _ _ _ (same (flat_map set_drives fabric.sets))
      (join _ _ _ _ (same (flat_map ram_drives (numbered fabric.rams)))
      (join _ _ _ _ (same (flat_map (global_drives fabric.pins fabric.plls) fabric.globals))
      (join _ _ _ _ (same (flat_map buffer_drives fabric.buffers))
      (join _ _ _ _ (registers-drive input_driver input-kept fabric.registers registers alike)
      (join _ _ _ _ (registers-drive second_driver second-kept fabric.registers registers alike)
      (join _ _ _ _ (same (flat_map (data_drives fabric) fabric.pins))
      (join _ _ _ _ (same (flat_map (pad_drives fabric) fabric.pins))
      (same (flat_map (pll_drives fabric.pins fabric.plls) fabric.plls)))))))))))))))

  is_driver-alike : (class : ℕ) (one two : Drive) → DrivesAlike one two → is_driver_of fabric class one ≡ is_driver_of other class two
  is_driver-alike class one two same = ap (λ net. class_of fabric.joins net == class) same.net

  pub driven-alike : (class : ℕ) → is_driven fabric class ≡ is_driven other class
  unfolding is_driven
  driven-alike class = pairs-any DrivesAlike (is_driver_of fabric class) (is_driver_of other class) (is_driver-alike class) (drives_of fabric) (drives_of other) drives-alike

  connected-alike : is_connected fabric ≡ is_connected other
  connected-alike = λ i net. driven-alike (class_of fabric.joins net) i

  -- ---- values of nets

  pub outputs-alike : outputs_of fabric ≡ outputs_of other
  unfolding outputs_of
  outputs-alike = refl

  output_values-alike : (state : State) (pins v : List Bool) → output_values fabric state pins v ≡ output_values other state pins v
  unfolding output_values
  output_values-alike state pins v =
      ap (map (λ output. signal_value (is_connected fabric) state pins (bit_in v) output.source)) outputs-alike
      ∙ ap (λ connected. map (λ output. signal_value connected state pins (bit_in v) output.source) (outputs_of other)) connected-alike

  -- a list of values that is consistent with the one is consistent with the other
  consistent-other : (state : State) (pins v : List Bool) → IsConsistent fabric state pins v → IsConsistent other state pins v
  consistent-other state pins v is = record {
    each_net = is.each_net;
    joined = is.joined;
    driven = λ drive there.
        let found = pairs-first DrivesAlike (drives_of fabric) (drives_of other) drive drives-alike there in
        ap (bit_in v) (sym found.2.net) ∙ is.driven found.0 found.1
        ∙ found.2.rule.value (is_connected fabric) state pins (bit_in v)
        ∙ ap (λ connected. value_of connected state pins (bit_in v) drive.rule) connected-alike;
    not_driven = λ net within away. is.not_driven net within (driven-alike (class_of fabric.joins net) ∙ away);
  }

  consistent-back : (state : State) (pins v : List Bool) → IsConsistent other state pins v → IsConsistent fabric state pins v
  consistent-back state pins v is = record {
    each_net = is.each_net;
    joined = is.joined;
    driven = λ drive there.
        let found = pairs-first (λ (two one : Drive). DrivesAlike one two) (drives_of other) (drives_of fabric) drive (pairs-flip DrivesAlike (drives_of fabric) (drives_of other) drives-alike) there in
        ap (bit_in v) found.2.net ∙ is.driven found.0 found.1
        ∙ sym (found.2.rule.value (is_connected other) state pins (bit_in v))
        ∙ ap (λ connected. value_of connected state pins (bit_in v) drive.rule) (sym connected-alike);
    not_driven = λ net within away. is.not_driven net within (sym (driven-alike (class_of fabric.joins net)) ∙ away);
  }

  -- ---- states

  abbrev with_bits : State → List Bool → State
  with_bits state bits = record { bits = bits; reads = state.reads; words = state.words }

  settled_state-alike : (bit : ℕ → Bool) (state : State) → settled_state fabric bit state ≡ settled_state other bit state
  unfolding settled_state
  settled_state-alike bit state =
      ap (with_bits state)
      (pairs-give PlacesAlike
      (λ place. settled_bit (is_connected fabric) bit place.1 (get_or state.bits place.0 false))
      (λ place. settled_bit (is_connected other) bit place.1 (get_or state.bits place.0 false))
      (λ one two same.
      settled_bit-alike one.1 two.1 same.1 (is_connected fabric) bit (get_or state.bits one.0 false)
      ∙ ap (λ place. settled_bit (is_connected fabric) bit two.1 (get_or state.bits place false)) same.0
      ∙ ap (λ connected. settled_bit connected bit two.1 (get_or state.bits two.0 false)) connected-alike)
      (numbered fabric.registers) (numbered registers) (pairs-numbered RegistersAlike 0 fabric.registers registers alike))

  bit_after-alike : (pins : List Bool) (bit : ℕ → Bool) (edges : Edges) (state : State) (one two : ℕ × Register) → PlacesAlike one two
      → bit_after (is_connected fabric) pins bit edges state one ≡ bit_after (is_connected other) pins bit edges state two
  bit_after-alike pins bit edges state one two same =
      let bits = state.bits in
      let edge : edges one.1.neg one.1.clk ≡ edges two.1.neg two.1.clk =
      register-field one.1 two.1 same.1 (λ r. edges r.neg r.clk) refl in
      let next = next_bit-alike one.1 two.1 same.1 (is_connected fabric) state pins bit (get_or bits one.0 false) in
      ap (λ edge. if edge then next_bit (is_connected fabric) state pins bit one.1 (get_or bits one.0 false) else get_or bits one.0 false) edge
      ∙ ap (λ next. if edges two.1.neg two.1.clk then next else get_or bits one.0 false) next
      ∙ ap (λ place. if edges two.1.neg two.1.clk then next_bit (is_connected fabric) state pins bit two.1 (get_or bits place false) else get_or bits place false) same.0
      ∙ ap (λ connected. if edges two.1.neg two.1.clk then next_bit connected state pins bit two.1 (get_or bits two.0 false) else get_or bits two.0 false) connected-alike

  abbrev rams_after : State → (ℕ → Bool) → Edges → List Bool → (ℕ → Bool) → State
  rams_after state bit edges bits connected = record {
    bits = bits;
    reads = map (read_after connected bit edges state) (numbered fabric.rams);
    words = map (words_after connected bit edges state) (numbered fabric.rams);
  }

  state_after-alike : (pins : List Bool) (state : State) (bit : ℕ → Bool) (edges : Edges) → state_after fabric pins state bit edges ≡ state_after other pins state bit edges
  unfolding state_after
  state_after-alike pins state bit edges =
      let bits = pairs-give PlacesAlike (bit_after (is_connected fabric) pins bit edges state) (bit_after (is_connected other) pins bit edges state)
      (bit_after-alike pins bit edges state)
      (numbered fabric.registers) (numbered registers) (pairs-numbered RegistersAlike 0 fabric.registers registers alike) in
      ap₂ (rams_after state bit edges) bits connected-alike

  abbrev start_with : ℕ → State
  start_with count = record { bits = replicate count false; reads = replicate (length fabric.rams) (replicate 16 false); words = fabric.start }

  start-alike : start_state fabric ≡ start_state other
  start-alike =
      ap start_with
      (pairs-length RegistersAlike fabric.registers registers alike)

  -- ---- clocks

  turn-first : (connected : ℕ → Bool) (taken : Bool) (class : ℕ) (one two : List Drive) → AllZip DrivesAlike one two
      → turn_of connected taken class one ≡ turn_of connected taken class two
  turn-first connected taken class [] [] same = refl
  turn-first connected taken class [] (b ∷ two) same = absurd same
  turn-first connected taken class (a ∷ one) [] same = absurd same
  turn-first connected taken class (a ∷ one) (b ∷ two) same = same.0.rule.turn connected taken class

  turn-alike : (class : ℕ) → turn_at fabric class ≡ turn_at other class
  unfolding turn_at drivers_of
  turn-alike class =
      turn-first (is_connected fabric) fabric.register_clocks class (drivers_of fabric class) (drivers_of other class)
      (pairs-filter DrivesAlike (is_driver_of fabric class) (is_driver_of other class) (is_driver-alike class) (drives_of fabric) (drives_of other) drives-alike)
      ∙ ap (λ connected. turn_of connected fabric.register_clocks class (drivers_of other class)) connected-alike

  end_within-alike : (count class : ℕ) → end_within fabric count class ≡ end_within other count class
  unfolding end_within
  end_within-alike zero class = refl
  end_within-alike (suc more) class =
      ap₂ (λ (later : ℕ → ClockEnd) (turn : Turn). end_by later turn) (λ i net. end_within-alike more (class_of fabric.joins net) i) (turn-alike class)

  pub clock_end-alike : (net : ℕ) → clock_end fabric net ≡ clock_end other net
  unfolding clock_end
  clock_end-alike net = end_within-alike (suc fabric.nets) (class_of fabric.joins net)

  -- the registers that are clocks are the same
  pub clock_class-alike : (net : Option ℕ) → clock_class fabric net ≡ clock_class other net
  unfolding clock_class
  clock_class-alike None = refl
  clock_class-alike (Some net) = ap register_class (clock_end-alike net)

  -- and so are the users of clocks
  users-alike : clocked_users fabric ≡ clocked_users other
  users-alike =
      ap (λ registers. registers ++ flat_map (λ (ram : RamCell). (ram.rneg, ram.rclk) ∷ (ram.wneg, ram.wclk) ∷ []) fabric.rams)
      (pairs-give RegistersAlike (λ (register : Register). (register.neg, register.clk)) (λ (register : Register). (register.neg, register.clk))
      (λ one two same. register-field one two same (λ (register : Register). (register.neg, register.clk)) refl) fabric.registers registers alike)

  leads-alike : {class : ℕ} {end : ClockEnd} → LeadsTo fabric class end → LeadsTo other class end
  leads-alike {class} {end} (ends_here turns) = ends_here (sym (turn-alike class) ∙ turns)
  leads-alike {class} {end} (goes_on turned net later turns is rest) = goes_on turned net later (sym (turn-alike class) ∙ turns) is (leads-alike rest)

-- ---- runs

-- the values, entries and steps of one fabric are those of another
pub record Agree (one two : Fabric) : Type 0 where
  pub consistent : (state : State) (pins v : List Bool) → IsConsistent one state pins v → IsConsistent two state pins v
  pub outputs : (state : State) (pins v : List Bool) → output_values one state pins v ≡ output_values two state pins v
  pub settled : (bit : ℕ → Bool) (state : State) → settled_state one bit state ≡ settled_state two bit state
  pub after : (pins : List Bool) (state : State) (bit : ℕ → Bool) (edges : Edges) → state_after one pins state bit edges ≡ state_after two pins state bit edges
  pub start : start_state one ≡ start_state two
  pub inputs : inputs_of one ≡ inputs_of two
  pub clocks : (net : Option ℕ) → clock_class one net ≡ clock_class two net
  pub users : clocked_users one ≡ clocked_users two

module _ (one two : Fabric) (agree : Agree one two) where
  pub entry-moved : (entry : Entry) → IsEntry one entry → IsEntry two entry
  entry-moved entry is = record {
    consistent = agree.consistent entry.state entry.pins entry.v is.consistent;
    outputs = is.outputs ∙ agree.outputs entry.state entry.pins entry.v;
  }

  event_edges-moved : (before after : ℕ → Bool) → event_edges one before after ≡ event_edges two before after
  event_edges-moved before after = λ i inverted net. not (is_some (agree.clocks net i)) && has_edge inverted net before after

  wave_edges-moved : (before after : ℕ → Bool) → wave_edges one before after ≡ wave_edges two before after
  wave_edges-moved before after = λ i inverted net. is_some (agree.clocks net i) && has_edge inverted net before after

  -- the same waves come, and as many at most
  pub has_wave-moved : (earlier before : Entry) → has_wave one earlier before ≡ has_wave two earlier before
  has_wave-moved earlier before =
      ap (λ (edges : Edges). list_any (λ user. edges user.0 user.1) (clocked_users one)) (wave_edges-moved (bit_in earlier.v) (bit_in before.v))
      ∙ ap (list_any (λ user. wave_edges two (bit_in earlier.v) (bit_in before.v) user.0 user.1)) agree.users

  pub wave_bound-moved : wave_bound one ≡ wave_bound two
  wave_bound-moved =
      ap (λ (clocks : Option ℕ → Option ℕ). length (filter (λ user. is_some (clocks user.1)) (clocked_users one))) (λ i net. agree.clocks net i)
      ∙ ap (λ users. length (filter (λ user. is_on_register two user.1) users)) agree.users

  -- what a state settles to after users with an edge changed
  after-moved : (pins : List Bool) (state : State) (bit settles : ℕ → Bool) (first second : Edges) → first ≡ second
      → settled_state one settles (state_after one pins state bit first) ≡ settled_state two settles (state_after two pins state bit second)
  after-moved pins state bit settles first second same =
      agree.settled settles (state_after one pins state bit first)
      ∙ ap (settled_state two settles) (agree.after pins state bit first ∙ ap (state_after two pins state bit) same)

  step-moved : (before : Entry) (event : Event) (after : Entry) → IsFirstStep one before event after → IsFirstStep two before event after
  step-moved before event after is = record {
    entry = entry-moved after is.entry;
    pins = is.pins;
    state = is.state ∙ after-moved before.pins before.state (bit_in before.v) (bit_in after.v) _ _ (event_edges-moved (bit_in before.v) (bit_in after.v));
  }

  wave-moved : (earlier before after : Entry) → IsWave one earlier before after → IsWave two earlier before after
  wave-moved earlier before after is = record {
    entry = entry-moved after is.entry;
    pins = is.pins;
    state = is.state ∙ after-moved before.pins before.state (bit_in before.v) (bit_in after.v) _ _ (wave_edges-moved (bit_in earlier.v) (bit_in before.v));
  }

  pub ends-moved : {more : ℕ} {earlier before prior last : Entry} → EndsAt one more earlier before prior last → EndsAt two more earlier before prior last
  ends-moved bound = bound
  ends-moved {earlier} {before} (rests still) = rests (sym (has_wave-moved earlier before) ∙ still)
  ends-moved {earlier} {before} (more_waves next comes wave more) =
      more_waves next (sym (has_wave-moved earlier before) ∙ comes) (wave-moved earlier before next wave) (ends-moved more)

  pub waves-moved : {earlier before prior last : Entry} → EndsAt one (wave_bound one) earlier before prior last → EndsAt two (wave_bound two) earlier before prior last
  waves-moved {earlier} {before} {prior} {last} waves = subst (λ n. EndsAt two n earlier before prior last) wave_bound-moved (ends-moved waves)

  follows-moved : (before : Entry) (event : Event) (after : Entry) → Follows one before event after → Follows two before event after
  follows-moved before event after is = record {
    first = is.first;
    prior = is.prior;
    first_step = step-moved before event is.first is.first_step;
    waves = waves-moved is.waves;
  }

  first-moved : (entry : Entry) → IsFirst one entry → IsFirst two entry
  first-moved entry is = record {
    entry_is = entry-moved entry is.entry_is;
    pins = is.pins ∙ ap (λ inputs. replicate (length inputs) false) agree.inputs;
    state = is.state ∙ agree.settled (bit_in entry.v) (start_state one) ∙ ap (settled_state two (bit_in entry.v)) agree.start;
  }

  each-moved : (entry : Entry) (events : List Event) (entries : List Entry) → FollowEach one entry events entries → FollowEach two entry events entries
  each-moved entry [] [] follow = tt
  each-moved entry [] (next ∷ entries) follow = absurd follow
  each-moved entry (event ∷ events) [] follow = absurd follow
  each-moved entry (event ∷ events) (next ∷ entries) follow = (follows-moved entry event next follow.0, each-moved next events entries follow.1)

  -- a run of the one is a run of the other
  pub run-moved : (events : List Event) (entries : List Entry) → IsRun one events entries → IsRun two events entries
  run-moved events [] run = absurd run
  run-moved events (first ∷ entries) run = (first-moved first run.0, each-moved first events entries run.1)

module _ (fabric : Fabric) (inputs : LutInputs) (registers : List Register) (alike : AllZip RegistersAlike fabric.registers registers) where
  agree-other : Agree fabric (record fabric { lut_inputs = inputs; registers = registers })
  agree-other = record {
    consistent = consistent-other fabric inputs registers alike;
    outputs = output_values-alike fabric inputs registers alike;
    settled = settled_state-alike fabric inputs registers alike;
    after = state_after-alike fabric inputs registers alike;
    start = start-alike fabric inputs registers alike;
    inputs = refl;
    clocks = clock_class-alike fabric inputs registers alike;
    users = users-alike fabric inputs registers alike;
  }

  agree-back : Agree (record fabric { lut_inputs = inputs; registers = registers }) fabric
  agree-back = record {
    consistent = consistent-back fabric inputs registers alike;
    outputs = λ state pins v. sym (output_values-alike fabric inputs registers alike state pins v);
    settled = λ bit state. sym (settled_state-alike fabric inputs registers alike bit state);
    after = λ pins state bit edges. sym (state_after-alike fabric inputs registers alike pins state bit edges);
    start = sym (start-alike fabric inputs registers alike);
    inputs = refl;
    clocks = λ net. sym (clock_class-alike fabric inputs registers alike net);
    users = sym (users-alike fabric inputs registers alike);
  }

-- ---- the fabrics of a database and an image

register-itself : (register : Register) → RegistersAlike register register
register-itself register = record { rest = refl; value = λ connected state pins bit. refl }

register_of-alike : (inputs : LutInputs) (lc : LogicCell) → RegistersAlike (register_of inputs lc) (register_of read.All lc)
unfolding register_of
register_of-alike inputs lc = record { rest = refl; value = λ connected state pins bit. read-value connected state pins bit inputs lc }

module _ (options : FabricOptions) (db : Database) (image : Configuration) where
  -- the fabric whose LUTs read all inputs
  abbrev whole : Fabric
  whole = fabric_with (reading_all options) db image

  pub registers-alike : AllZip RegistersAlike (fabric_with options db image).registers whole.registers
  unfolding fabric_with registers_of
  registers-alike =
      pairs-append RegistersAlike (registers_of options.lut_inputs (cells_of db image)) (registers_of read.All (cells_of db image)) _ _
      (pairs-made RegistersAlike (register_of options.lut_inputs) (register_of read.All) (register_of-alike options.lut_inputs) (filter (λ lc. lc.flip) (cells_of db image)))
      (pairs-same RegistersAlike register-itself (pin_registers_of (flips_among (cells_of db image)) (pins_of options.all_pins db image)))

  -- what is shown of each fabric with other LUTs and registers that are alike is shown of the fabric whose LUTs read all inputs
  pub in-all : (P : Fabric → Type 0) → P (record (fabric_with options db image) { lut_inputs = read.All; registers = whole.registers }) → P whole
  unfolding fabric_with
  in-all P holds = holds

  pub to-all : Agree (fabric_with options db image) whole
  to-all = in-all (λ all. Agree (fabric_with options db image) all) (agree-other (fabric_with options db image) read.All whole.registers registers-alike)

  pub from-all : Agree whole (fabric_with options db image)
  from-all = in-all (λ all. Agree all (fabric_with options db image)) (agree-back (fabric_with options db image) read.All whole.registers registers-alike)

  -- the runs are the same
  pub run-with : (events : List Event) (entries : List Entry) → IsRun whole events entries → IsRun (fabric_with options db image) events entries
  run-with = run-moved whole (fabric_with options db image) from-all

  run-of : (events : List Event) (entries : List Entry) → IsRun (fabric_with options db image) events entries → IsRun whole events entries
  run-of = run-moved (fabric_with options db image) whole to-all

  -- so are the input pins, and where clocks come from
  pub inputs-with : inputs_of (fabric_with options db image) ≡ inputs_of whole
  unfolding fabric_with
  inputs-with = refl

  pub clock_end-with : (net : ℕ) → clock_end (fabric_with options db image) net ≡ clock_end whole net
  clock_end-with net =
      in-all (λ all. clock_end (fabric_with options db image) net ≡ clock_end all net)
      (clock_end-alike (fabric_with options db image) read.All whole.registers registers-alike net)

  pub clock_class-with : (net : Option ℕ) → clock_class (fabric_with options db image) net ≡ clock_class whole net
  clock_class-with net =
      in-all (λ all. clock_class (fabric_with options db image) net ≡ clock_class all net)
      (clock_class-alike (fabric_with options db image) read.All whole.registers registers-alike net)

  pub leads-with : (class : ℕ) (end : ClockEnd) → LeadsTo (fabric_with options db image) class end → LeadsTo whole class end
  leads-with class end =
      in-all (λ all. LeadsTo (fabric_with options db image) class end → LeadsTo all class end)
      (λ leads. leads-alike (fabric_with options db image) read.All whole.registers registers-alike leads)

  pub driven-with : (class : ℕ) → is_driven (fabric_with options db image) class ≡ is_driven whole class
  driven-with class =
      in-all (λ all. is_driven (fabric_with options db image) class ≡ is_driven all class)
      (driven-alike (fabric_with options db image) read.All whole.registers registers-alike class)

  pub outputs-with : outputs_of (fabric_with options db image) ≡ outputs_of whole
  outputs-with =
      in-all (λ all. outputs_of (fabric_with options db image) ≡ outputs_of all)
      (outputs-alike (fabric_with options db image) read.All whole.registers registers-alike)

  -- Where a database and an image aren't refused, whichever inputs their LUTs read, their fabric has exactly one list of values for each
  -- state and all values of pins, and exactly one run for each list of events.
  module _ (fit : IsFit db) (none : design_fault options db image ≡ None) where
    pub design-value : (state : State) (pins : List Bool) → ExactlyOne (IsConsistent whole state pins)
    design-value state pins =
        let one = taken-value image.layout.device (fabric_with options db image) (design-taken options db image none).fabric (fabric-within db image fit options) state pins in
        record {
          it = one.it;
          is = to-all.consistent state pins one.it one.is;
          only = λ v is. one.only v (from-all.consistent state pins v is);
        }

    pub design-run : (events : List Event) → ExactlyOne (IsRun whole events)
    design-run events =
        let one = taken-run image.layout.device (fabric_with options db image) (design-taken options db image none).fabric
        (fabric-placed db image options) (fabric-within db image fit options) events in
        record {
          it = one.it;
          is = run-of events one.it one.is;
          only = λ entries is. one.only entries (run-with events entries is);
        }
