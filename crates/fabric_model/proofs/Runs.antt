-- A fabric without a fault has exactly one run for each list of events. Whether a clock that no register is has an edge depends on the pins
-- alone, and the edges of a wave are those between two entries before it; so the next state is known before the values of the nets after
-- it are.
use Rattle.std.proofs.Common.{◌≡◌, ℕ, zero, suc, ◌<◌, Bool, true, false, List, [], ◌∷◌, length, map, get_or, set, replicate, refl, sym, ap, ◌∙◌, subst, arith, inl, inr}
use Rattle.std.specs.Prelude.{All, Contains, Option, Some, None, is_some, filter, flat_map, ◌&&◌, ◌==◌}
use Rattle.std.specs.List.{AllByRecursion}
use Rattle.std.proofs.lemmas.Bool.{cases_Bool, and_from}
use Rattle.std.proofs.Common.{eq-eqb}
use Rattle.std.proofs.lemmas.List.Elements.{All-append, All-filter, All-contains, All-contains_itself, All-map, All-weaker, Contains-append_left, Contains-append_right}
use Rattle.shared_lemmas.proofs.Lists.{append_empty}
use Rattle.index_search.proofs.Gathered.{All-gathered_below, Contains-gathered_below}
use Rattle.plane_map.specs.declared.device.DeviceName.{DeviceName}
use Rattle.plane_map.specs.declared.tile.TileKind.TheVariants.{Io, Logic, RamB}
use Rattle.plane_map.specs.Layout.{grid_width, grid_height}
use Rattle.chipdb_reader.specs.Database.{Database}
use Rattle.ice_image.specs.Configuration.{Configuration}
use Rattle.index_search.specs.Places.{gathered_below}
use Rattle.fabric_model.specs.declared.cell.LogicCell.{LogicCell}
use Rattle.fabric_model.specs.declared.lut_inputs.LutInputs.{LutInputs}
use Rattle.fabric_model.specs.declared.register.Register.{Register}
use Rattle.fabric_model.specs.declared.ram.RamCell.{RamCell}
use Rattle.fabric_model.specs.declared.pin.Pin.{Pin}
use Rattle.fabric_model.specs.declared.driver.ClockUser.TheVariants.{Read, Write}
use Rattle.fabric_model.specs.Unique.{ExactlyOne}
use Rattle.fabric_model.specs.declared.options.FabricOptions.{FabricOptions}
use Rattle.fabric_model.specs.declared.register.PinRegister.{PinRegister}
use Rattle.fabric_model.specs.Tiles.{over_grid, each_below}
use Rattle.fabric_model.specs.Cells.{cell_bits, cell_with, used_cell, cells_at, cells_of}
use Rattle.fabric_model.specs.Rams.{is_ram_used, ram_at, rams_of}
use Rattle.fabric_model.specs.Pins.{PinPlace, pin_places, pin_with, port_at, pins_of}
use Rattle.fabric_model.specs.Fabric.{Fabric, numbered, inputs_of, fabric_with}
use Rattle.fabric_model.specs.Registers.{register_of, flips_among, registers_of, registers_in, pin_register, pin_registers_of}
use Rattle.fabric_model.specs.Values.{State, bit_in, IsConsistent}
use Rattle.fabric_model.specs.Steps.{Edges, is_on_register, event_edges, wave_edges, state_after, settled_state, Event, Entry, output_values, IsEntry, IsFirstStep, IsWave, has_wave, wave_bound, EndsAt, Follows, start_state, IsFirst, FollowEach, IsRun}
use Rattle.fabric_model.specs.Steps.EndsAt.{bound, rests, goes_on}
use Rattle.fabric_model.specs.ClockLuts.{turned_bit}
use Rattle.fabric_model.specs.Clocks.{ClockEnd, User, register_user, ram_users, users_at, users_of, clock_end, register_class, clock_class}
use Rattle.fabric_model.specs.Clocks.ClockEnd.{at_pin, at_register, still, logic}
use Rattle.fabric_model.specs.Faults.{end_fault, user_fault, clock_faults, fabric_fault}
use Rattle.fabric_model.proofs.Apart.{All-every}
use Rattle.fabric_model.proofs.Contained.{contains-map, contains-flat_map}
use Rattle.fabric_model.proofs.OneValue.{IsWithin, filter-has}
use Rattle.fabric_model.proofs.Taken.{taken-order, taken-value, taken-clocks}
use Rattle.fabric_model.proofs.Chains.{clock_end-leads, HasEndValue, clock-value}
use Rattle.fabric_model.proofs.Within.{All-flat_map, All-item_if, All-if, All-single, All-over_tiles, All-numbered}
use Rattle.fabric_model.proofs.Settling.{consistent-settled, consistent-unsettled}
use Rattle.fabric_model.proofs.Edges.{EdgesAgree, state-same}
use Rattle.fabric_model.proofs.Events.{first-settled, follows-entry, follows-settled}

-- ---- lists

pub contains-over_grid : {A : Type 0} (device : DeviceName) (given : ℕ → ℕ → List A) (x y : ℕ) (item : A)
    → x < grid_width device → y < grid_height device → Contains (given x y) item → Contains (over_grid device given) item
unfolding over_grid
contains-over_grid device given x y item left low there =
    Contains-gathered_below (grid_height device) y (λ row. gathered_below (grid_width device) (λ column. given column row)) item low
    (Contains-gathered_below (grid_width device) x (λ column. given column y) item left there)

-- no item gives anything
gives-none : {A B : Type 0} (given : A → List B) (list : List A) (item : A) → flat_map given list ≡ [] → Contains list item → given item ≡ []
gives-none given [] item none (k, within, here) = absurd (omega (arith, within))
gives-none given (head ∷ list) item none (zero, within, here) = ap given (sym here) ∙ (append_empty (given head) (flat_map given list) none).0
gives-none given (head ∷ list) item none (suc k, within, here) =
    gives-none given list item (append_empty (given head) (flat_map given list) none).1 (k, omega (arith, within), here)

-- ---- users stand at places of the grid

pub record IsAt (device : DeviceName) (x y : ℕ) : Type 0 where
  pub left : x < grid_width device
  pub low : y < grid_height device

pub record IsPlaced (device : DeviceName) (fabric : Fabric) : Type 0 where
  pub pins : All (λ pin. IsAt device pin.x pin.y) fabric.pins
  pub lcs : All (λ lc. IsAt device lc.x lc.y) fabric.lcs
  pub registers : All (λ register. IsAt device register.x register.y) fabric.registers
  pub rams : All (λ ram. IsAt device ram.x ram.y) fabric.rams

module _ (db : Database) (image : Configuration) where
  pin-placed : (all : Bool) (j x y n : ℕ) → IsAt image.layout.device x y → IsAt image.layout.device (pin_with all db image j x y n).x (pin_with all db image j x y n).y
  unfolding pin_with
  pin-placed all j x y n at = at

  places-placed : All (λ (place : PinPlace). IsAt image.layout.device place.x place.y) (pin_places image.layout.device)
  unfolding pin_places
  places-placed =
      All-over_tiles (λ (place : PinPlace). IsAt image.layout.device place.x place.y) image.layout.device Io (λ x y. each_below 2 (λ n. record { x = x; y = y; n = n }))
      (λ x y left low. All-gathered_below (λ (place : PinPlace). IsAt image.layout.device place.x place.y) 2 (λ n. record { x = x; y = y; n = n } ∷ [])
      (λ n below. All-single (λ (place : PinPlace). IsAt image.layout.device place.x place.y) (record { x = x; y = y; n = n }) (record { left = left; low = low })))

  pins-placed : (all : Bool) → All (λ pin. IsAt image.layout.device pin.x pin.y) (pins_of all db image)
  unfolding pins_of
  pins-placed all =
      let places = pin_places image.layout.device in
      All-flat_map (λ pin. IsAt image.layout.device pin.x pin.y) (port_at all db image) (numbered places)
      (All-weaker (λ (place : ℕ × PinPlace). IsAt image.layout.device place.1.x place.1.y) (λ place. All (λ pin. IsAt image.layout.device pin.x pin.y) (port_at all db image place))
      (λ place at. All-item_if (λ pin. IsAt image.layout.device pin.x pin.y) _ (pin_with all db image place.0 place.1.x place.1.y place.1.n)
      (pin-placed all place.0 place.1.x place.1.y place.1.n at)) (numbered places) (All-numbered (λ (place : PinPlace). IsAt image.layout.device place.x place.y) 0 places places-placed))

  cell-placed : (x y i : ℕ) (bits : List Bool) → IsAt image.layout.device x y
      → IsAt image.layout.device (cell_with db image x y i bits).x (cell_with db image x y i bits).y
  unfolding cell_with
  cell-placed x y i bits at = at

  cells-placed : All (λ lc. IsAt image.layout.device lc.x lc.y) (cells_of db image)
  unfolding cells_of cells_at
  cells-placed =
      All-over_tiles (λ lc. IsAt image.layout.device lc.x lc.y) image.layout.device Logic (cells_at db image)
      (λ x y left low. All-gathered_below (λ lc. IsAt image.layout.device lc.x lc.y) 8 (used_cell db image x y)
      (λ i below. All-item_if (λ lc. IsAt image.layout.device lc.x lc.y) _ (cell_with db image x y i (cell_bits db image x y i))
      (cell-placed x y i (cell_bits db image x y i) (record { left = left; low = low }))))

  register-placed : (inputs : LutInputs) (lc : LogicCell) → IsAt image.layout.device lc.x lc.y
      → IsAt image.layout.device (register_of inputs lc).x (register_of inputs lc).y
  unfolding register_of
  register-placed inputs lc at = at

  flips-placed : (inputs : LutInputs) → All (λ register. IsAt image.layout.device register.x register.y) (registers_of inputs (cells_of db image))
  unfolding registers_of
  flips-placed inputs =
      let made = register_of inputs in
      All-map (λ register. IsAt image.layout.device register.x register.y) made (filter (λ lc. lc.flip) (cells_of db image))
      (All-filter (λ lc. lc.flip) (λ lc. IsAt image.layout.device (made lc).x (made lc).y) (cells_of db image)
      (All-weaker (λ lc. IsAt image.layout.device lc.x lc.y) (λ lc. IsAt image.layout.device (made lc).x (made lc).y) (register-placed inputs) (cells_of db image) cells-placed))

  pin_register-placed : (flips : ℕ) (pins : List Pin) (pin : Pin) (register : PinRegister) → IsAt image.layout.device pin.x pin.y
      → IsAt image.layout.device (pin_register flips pins pin register).x (pin_register flips pins pin register).y
  unfolding pin_register
  pin_register-placed flips pins pin register at = at

  pin_registers-placed : (flips : ℕ) (pins : List Pin) → All (λ pin. IsAt image.layout.device pin.x pin.y) pins
      → All (λ register. IsAt image.layout.device register.x register.y) (pin_registers_of flips pins)
  unfolding pin_registers_of
  pin_registers-placed flips pins placed =
      let IsThere = λ (register : Register). IsAt image.layout.device register.x register.y in
      All-flat_map IsThere (λ pin. map (pin_register flips pins pin) (registers_in pin)) pins
      (All-weaker (λ pin. IsAt image.layout.device pin.x pin.y) (λ pin. All IsThere (map (pin_register flips pins pin) (registers_in pin)))
      (λ pin at. All-map IsThere (pin_register flips pins pin) (registers_in pin)
      (All-every (λ register. IsThere (pin_register flips pins pin register)) (λ register. pin_register-placed flips pins pin register at) (registers_in pin))) pins placed)

  ram-placed : (x y : ℕ) → IsAt image.layout.device x y → IsAt image.layout.device (ram_at db image x y).x (ram_at db image x y).y
  unfolding ram_at
  ram-placed x y at = at

  rams-placed : All (λ ram. IsAt image.layout.device ram.x ram.y) (rams_of db image)
  unfolding rams_of
  rams-placed =
      All-over_tiles (λ ram. IsAt image.layout.device ram.x ram.y) image.layout.device RamB _
      (λ x y left low. All-if (λ ram. IsAt image.layout.device ram.x ram.y) (is_ram_used db image x y) (ram_at db image x y ∷ [])
      (All-single (λ ram. IsAt image.layout.device ram.x ram.y) (ram_at db image x y) (ram-placed x y (record { left = left; low = low }))))

  -- pins, cells, registers and RAMs of a database and an image stand at places of the grid
  pub fabric-placed : (options : FabricOptions) → IsPlaced image.layout.device (fabric_with options db image)
  unfolding fabric_with
  fabric-placed options =
      let all = options.all_pins in
      let flips = flips_among (cells_of db image) in
      record {
        pins = pins-placed all;
        lcs = cells-placed;
        registers = All-append (λ register. IsAt image.layout.device register.x register.y) (registers_of options.lut_inputs (cells_of db image)) (pin_registers_of flips (pins_of all db image))
            (flips-placed options.lut_inputs) (pin_registers-placed flips (pins_of all db image) (pins-placed all));
        rams = rams-placed;
      }

-- ---- the bits of clocks

-- the bit of the end of a chain
abbrev pub end_bit : State → List Bool → ClockEnd → Bool
end_bit state pins (at_pin place turned) = turned_bit turned (get_or pins place false)
end_bit state pins (at_register class place turned) = turned_bit turned (get_or state.bits place false)
end_bit state pins (still bit) = bit
end_bit state pins logic = false

-- the bit that the state and the pins give a clock net
pub clock_bit : Fabric → State → List Bool → ℕ → Bool
clock_bit fabric state pins net = end_bit state pins (clock_end fabric net)

pub clock_bit-is : (fabric : Fabric) (state : State) (pins : List Bool) (net : ℕ) → clock_bit fabric state pins net ≡ end_bit state pins (clock_end fabric net)
unfolding clock_bit
clock_bit-is fabric state pins net = refl

-- an end that a clock of a user may have
abbrev pub IsClockEnd : ClockEnd → Type 0
IsClockEnd (at_pin place turned) = Unit {0}
IsClockEnd (at_register class place turned) = Unit {0}
IsClockEnd (still bit) = Unit {0}
IsClockEnd logic = ⊥

module _ (fabric : Fabric) (state : State) (pins v : List Bool) where
  end-value : (end : ClockEnd) (bit : Bool) → settled_state fabric (bit_in v) state ≡ state → IsClockEnd end → HasEndValue fabric state pins v end bit → bit ≡ end_bit state pins end
  end-value (at_pin place turned) bit settles good has = has
  end-value (at_register class place turned) bit settles good has = has settles
  end-value (still it) bit settles good has = has
  end-value logic bit settles good has = absurd good

  -- an end that is no register has a bit that no state gives
  pin-value : (other : State) (end : ClockEnd) (bit : Bool) → is_some (register_class end) ≡ false → IsClockEnd end → HasEndValue fabric state pins v end bit → bit ≡ end_bit other pins end
  pin-value other (at_pin place turned) bit away good has = has
  pin-value other (at_register class place turned) bit away good has = absurd cc
  pin-value other (still it) bit away good has = has
  pin-value other logic bit away good has = absurd good

end-good : (user : User) (net : ℕ) (end : ClockEnd) → end_fault user net end ≡ [] → IsClockEnd end
end-good user net (at_pin place turned) none = tt
end-good user net (at_register class place turned) none = tt
end-good user net (still bit) none = tt
end-good user net logic none = absurd cc

-- a clock net that may be missing has such an end
abbrev pub IsClocked : Fabric → Option ℕ → Type 0
IsClocked fabric None = Unit {0}
IsClocked fabric (Some net) = IsClockEnd (clock_end fabric net)

user-good : (fabric : Fabric) (user : User) (net : Option ℕ) → user_fault fabric user net ≡ [] → IsClocked fabric net
user-good fabric user None none = tt
user-good fabric user (Some net) none = end-good user net (clock_end fabric net) none

-- ---- clocks that agree

-- two lists of bits agree at a net that may be missing
abbrev pub AgreeAt : (ℕ → Bool) → (ℕ → Bool) → Option ℕ → Type 0
AgreeAt one two None = Unit {0}
AgreeAt one two (Some net) = one net ≡ two net

-- they agree at each clock net
pub record ClocksAgree (fabric : Fabric) (one two : ℕ → Bool) : Type 0 where
  pub registers : All (λ register. AgreeAt one two register.clk) fabric.registers
  pub reads : All (λ ram. AgreeAt one two ram.rclk) fabric.rams
  pub writes : All (λ ram. AgreeAt one two ram.wclk) fabric.rams

module _ (device : DeviceName) (fabric : Fabric) (taken : fabric_fault device fabric ≡ None) (placed : IsPlaced device fabric) where
  listed-good : (user : User) → Contains (users_of device fabric) user → IsClocked fabric user.net
  unfolding clock_faults
  listed-good user there =
      user-good fabric user user.net (gives-none (λ u. user_fault fabric u u.net) (users_of device fabric) user (taken-clocks device fabric taken) there)

  there-good : (x y : ℕ) (user : User) → IsAt device x y → Contains (users_at fabric x y) user → IsClocked fabric user.net
  unfolding users_of
  there-good x y user at there = listed-good user (contains-over_grid device (users_at fabric) x y user at.left at.low there)

  same-place : (x y : ℕ) → ((x == x) && (y == y)) ≡ true
  same-place x y = and_from (x == x) (y == y) (eq-eqb x x refl) (eq-eqb y y refl)

  pub register-good : (register : Register) → Contains fabric.registers register → IsClocked fabric register.clk
  register-good register there =
      let at : IsAt device register.x register.y = All-contains (λ r. IsAt device r.x r.y) fabric.registers register placed.registers there in
      let here = filter (λ r. (r.x == register.x) && (r.y == register.y)) fabric.registers in
      there-good register.x register.y (register_user register) at
      (Contains-append_left (map register_user here) _ (register_user register)
      (contains-map register_user here register
      (filter-has (λ r. (r.x == register.x) && (r.y == register.y)) fabric.registers register there (same-place register.x register.y))))

  ram-user-good : (ram : RamCell) (user : User) → Contains fabric.rams ram → Contains (ram_users ram) user → IsClocked fabric user.net
  ram-user-good ram user there of_ram =
      let at : IsAt device ram.x ram.y = All-contains (λ r. IsAt device r.x r.y) fabric.rams ram placed.rams there in
      there-good ram.x ram.y user at
      (Contains-append_right (map register_user (filter (λ r. (r.x == ram.x) && (r.y == ram.y)) fabric.registers)) _ user
      (contains-flat_map ram_users (filter (λ r. (r.x == ram.x) && (r.y == ram.y)) fabric.rams) ram user
      (filter-has (λ r. (r.x == ram.x) && (r.y == ram.y)) fabric.rams ram there (same-place ram.x ram.y)) of_ram))

  pub read-good : (ram : RamCell) → Contains fabric.rams ram → IsClocked fabric ram.rclk
  read-good ram there = ram-user-good ram (record { x = ram.x; y = ram.y; user = Read; net = ram.rclk }) there (0, omega arith, refl)

  pub write-good : (ram : RamCell) → Contains fabric.rams ram → IsClocked fabric ram.wclk
  write-good ram there = ram-user-good ram (record { x = ram.x; y = ram.y; user = Write; net = ram.wclk }) there (1, omega arith, refl)

  -- edges that agree at all clocks that users may have agree at each user
  edges-agree : (one two : Edges) → ((inverted : Bool) (clock : Option ℕ) → IsClocked fabric clock → one inverted clock ≡ two inverted clock) → EdgesAgree fabric one two
  edges-agree one two same = record {
    registers = All-weaker (Contains fabric.registers) (λ register. one register.neg register.clk ≡ two register.neg register.clk)
        (λ register there. same register.neg register.clk (register-good register there)) fabric.registers (All-contains_itself fabric.registers);
    reads = All-weaker (Contains fabric.rams) (λ ram. one ram.rneg ram.rclk ≡ two ram.rneg ram.rclk)
        (λ ram there. same ram.rneg ram.rclk (read-good ram there)) fabric.rams (All-contains_itself fabric.rams);
    writes = All-weaker (Contains fabric.rams) (λ ram. one ram.wneg ram.wclk ≡ two ram.wneg ram.wclk)
        (λ ram there. same ram.wneg ram.wclk (write-good ram there)) fabric.rams (All-contains_itself fabric.rams);
  }

  module _ (within : IsWithin fabric) where
    module _ (state : State) (pins v : List Bool) (is : IsConsistent fabric state pins v) where
      net-end : (net : ℕ) → HasEndValue fabric state pins v (clock_end fabric net) (bit_in v net)
      net-end net =
          let order = taken-order device fabric taken within in
          clock-value fabric within state pins v is net (clock_end fabric net) (clock_end-leads fabric within order.it order.is net)

      -- a clock net has the bit that the pins and the state give it, if each register whose asynchronous set or reset is 1 has its set bit
      pub clock-bit : settled_state fabric (bit_in v) state ≡ state → (net : ℕ) → IsClockEnd (clock_end fabric net) → bit_in v net ≡ clock_bit fabric state pins net
      unfolding clock_bit
      clock-bit settles net good = end-value fabric state pins v (clock_end fabric net) (bit_in v net) settles good (net-end net)

      -- a clock net that no register is the clock of has the bit that the pins give it, whatever the state
      pub pin-bit : (other : State) (net : ℕ) → is_on_register fabric (Some net) ≡ false → IsClockEnd (clock_end fabric net) → bit_in v net ≡ clock_bit fabric other pins net
      unfolding clock_bit clock_class
      pin-bit other net away good = pin-value fabric state pins v other (clock_end fabric net) (bit_in v net) away good (net-end net)

      -- so the edges of an event are known from the pins
      event-edges : (other : State) (before : ℕ → Bool) (inverted : Bool) (clock : Option ℕ) → IsClocked fabric clock
          → event_edges fabric before (bit_in v) inverted clock ≡ event_edges fabric before (clock_bit fabric other pins) inverted clock
      event-edges other before inverted None good = refl
      event-edges other before inverted (Some net) good =
          elim (cases_Bool (is_on_register fabric (Some net))) [
            | inl on ↦ rw on refl
            | inr away ↦ rw (pin-bit other net away good) refl
          ]

      clock-agrees : settled_state fabric (bit_in v) state ≡ state → (clock : Option ℕ) → IsClocked fabric clock → AgreeAt (bit_in v) (clock_bit fabric state pins) clock
      clock-agrees settles None good = tt
      clock-agrees settles (Some net) good = clock-bit settles net good

      -- all clocks have the bits that the pins and the state give them
      pub clocks-agree : settled_state fabric (bit_in v) state ≡ state → ClocksAgree fabric (bit_in v) (clock_bit fabric state pins)
      clocks-agree settles = record {
        registers = All-weaker (Contains fabric.registers) (λ register. AgreeAt (bit_in v) (clock_bit fabric state pins) register.clk)
            (λ register there. clock-agrees settles register.clk (register-good register there)) fabric.registers (All-contains_itself fabric.registers);
        reads = All-weaker (Contains fabric.rams) (λ ram. AgreeAt (bit_in v) (clock_bit fabric state pins) ram.rclk)
            (λ ram there. clock-agrees settles ram.rclk (read-good ram there)) fabric.rams (All-contains_itself fabric.rams);
        writes = All-weaker (Contains fabric.rams) (λ ram. AgreeAt (bit_in v) (clock_bit fabric state pins) ram.wclk)
            (λ ram there. clock-agrees settles ram.wclk (write-good ram there)) fabric.rams (All-contains_itself fabric.rams);
      }

    -- ---- entries

    entry-same : (one two : Entry) → one.pins ≡ two.pins → one.state ≡ two.state → one.v ≡ two.v → one.outputs ≡ two.outputs → one ≡ two
    entry-same one two pins state v outputs = λ i. record { pins = pins i; state = state i; v = v i; outputs = outputs i }

    -- the values of nets of an entry are consistent with each state that settles to its own
    pub entry-raw : (entry : Entry) (state : State) → IsEntry fabric entry → entry.state ≡ settled_state fabric (bit_in entry.v) state
        → IsConsistent fabric state entry.pins entry.v
    entry-raw entry state is settled =
        consistent-unsettled fabric within.closed state entry.pins entry.v (subst (λ s. IsConsistent fabric s entry.pins entry.v) settled is.consistent)

    -- two entries with the same pins whose states are what one state settles to are one
    pub entry-one : (state : State) (one two : Entry) → IsEntry fabric one → IsEntry fabric two → one.pins ≡ two.pins
        → one.state ≡ settled_state fabric (bit_in one.v) state → two.state ≡ settled_state fabric (bit_in two.v) state → one ≡ two
    entry-one state one two of_one of_two pins first second =
        let value = taken-value device fabric taken within state two.pins in
        let moved : IsConsistent fabric state two.pins one.v = subst (λ p. IsConsistent fabric state p one.v) pins (entry-raw one state of_one first) in
        let v : one.v ≡ two.v = value.only one.v moved ∙ sym (value.only two.v (entry-raw two state of_two second)) in
        let settles : one.state ≡ two.state = first ∙ (ap (λ w. settled_state fabric (bit_in w) state) v ∙ sym second) in
        let outputs : output_values fabric one.state one.pins one.v ≡ output_values fabric two.state two.pins two.v = rw (settles, pins, v) refl in
        entry-same one two pins settles v (of_one.outputs ∙ (outputs ∙ sym of_two.outputs))

    -- the entry of some pins and of what a state settles to
    entry_of : List Bool → State → Entry
    entry_of pins state =
        let v = (taken-value device fabric taken within state pins).it in
        let settled = settled_state fabric (bit_in v) state in
        record { pins = pins; state = settled; v = v; outputs = output_values fabric settled pins v }

    entry_of-is : (pins : List Bool) (state : State) → IsEntry fabric (entry_of pins state)
    unfolding entry_of
    entry_of-is pins state =
        let value = taken-value device fabric taken within state pins in
        record { consistent = consistent-settled fabric within.closed state pins value.it value.is; outputs = refl }

    entry_of-pins : (pins : List Bool) (state : State) → (entry_of pins state).pins ≡ pins
    unfolding entry_of
    entry_of-pins pins state = refl

    entry_of-state : (pins : List Bool) (state : State) → (entry_of pins state).state ≡ settled_state fabric (bit_in (entry_of pins state).v) state
    unfolding entry_of
    entry_of-state pins state = refl

    -- ---- the first step of an event

    -- the next state is that of the edges that the pins give
    pub state-clocked : (entry : Entry) → IsEntry fabric entry → (other : State) (pins : List Bool) (state : State) (before : ℕ → Bool)
        → state_after fabric pins state before (event_edges fabric before (bit_in entry.v))
        ≡ state_after fabric pins state before (event_edges fabric before (clock_bit fabric other entry.pins))
    state-clocked entry is other pins state before =
        let one = event_edges fabric before (bit_in entry.v) in
        let two = event_edges fabric before (clock_bit fabric other entry.pins) in
        state-same one two fabric pins state before (edges-agree one two (event-edges entry.state entry.pins entry.v is.consistent other before))

    -- what the first step makes of a state before it settles, from the pins after it
    raw_state : Entry → List Bool → State
    raw_state before pins = state_after fabric before.pins before.state (bit_in before.v) (event_edges fabric (bit_in before.v) (clock_bit fabric before.state pins))

    -- the state after the first step is what that settles to
    step-raw : (before : Entry) (event : Event) (after : Entry) → IsFirstStep fabric before event after
        → after.state ≡ settled_state fabric (bit_in after.v) (raw_state before after.pins)
    unfolding raw_state
    step-raw before event after step =
        step.state
        ∙ ap (settled_state fabric (bit_in after.v)) (state-clocked after step.entry before.state before.pins before.state (bit_in before.v))

    step-one : (before : Entry) (event : Event) (one two : Entry) → IsFirstStep fabric before event one → IsFirstStep fabric before event two → one ≡ two
    step-one before event one two of_one of_two =
        let pins : one.pins ≡ two.pins = of_one.pins ∙ sym of_two.pins in
        let first : one.state ≡ settled_state fabric (bit_in one.v) (raw_state before two.pins) =
        step-raw before event one of_one ∙ ap (λ p. settled_state fabric (bit_in one.v) (raw_state before p)) pins in
        entry-one (raw_state before two.pins) one two of_one.entry of_two.entry pins first (step-raw before event two of_two)

    step_after : Entry → Event → Entry
    step_after before event =
        let pins = set before.pins event.pin event.bit in
        entry_of pins (raw_state before pins)

    step-follows : (before : Entry) (event : Event) → IsFirstStep fabric before event (step_after before event)
    unfolding step_after raw_state
    step-follows before event =
        let pins = set before.pins event.pin event.bit in
        let state = raw_state before pins in
        let after = entry_of pins state in
        let is = entry_of-is pins state in
        record {
          entry = is;
          pins = entry_of-pins pins state;
          state = entry_of-state pins state
              ∙ ap (settled_state fabric (bit_in after.v))
              (ap (λ p. raw_state before p) (sym (entry_of-pins pins state))
              ∙ sym (state-clocked after is before.state before.pins before.state (bit_in before.v)));
        }

    -- ---- waves

    -- what a wave makes of a state before it settles
    abbrev wave_state : Entry → Entry → State
    wave_state earlier before = state_after fabric before.pins before.state (bit_in before.v) (wave_edges fabric (bit_in earlier.v) (bit_in before.v))

    wave-one : (earlier before one two : Entry) → IsWave fabric earlier before one → IsWave fabric earlier before two → one ≡ two
    wave-one earlier before one two of_one of_two =
        entry-one (wave_state earlier before) one two of_one.entry of_two.entry (of_one.pins ∙ sym of_two.pins) of_one.state of_two.state

    wave_after : Entry → Entry → Entry
    wave_after earlier before = entry_of before.pins (wave_state earlier before)

    wave-follows : (earlier before : Entry) → IsWave fabric earlier before (wave_after earlier before)
    unfolding wave_after
    wave-follows earlier before = record {
      entry = entry_of-is before.pins (wave_state earlier before);
      pins = entry_of-pins before.pins (wave_state earlier before);
      state = entry_of-state before.pins (wave_state earlier before);
    }

    -- waves end
    ends-there : (more : ℕ) (earlier before : Entry) → (prior : Entry) × (last : Entry) × EndsAt fabric more earlier before prior last
    ends-there zero earlier before = (earlier, before, bound)
    ends-there (suc more) earlier before =
        elim (cases_Bool (has_wave fabric earlier before)) [
          | inl comes ↦
              let next = wave_after earlier before in
              let rest = ends-there more before next in
              (rest.0, rest.1, goes_on next comes (wave-follows earlier before) rest.2)
          | inr quiet ↦ (earlier, before, rests quiet)
        ]

    -- at one entry
    ends-one : {more : ℕ} {earlier before first one second two : Entry} → EndsAt fabric more earlier before first one → EndsAt fabric more earlier before second two → one ≡ two
    ends-one bound bound = refl
    ends-one (rests quiet) (rests other) = refl
    ends-one (rests quiet) (goes_on next comes wave more) = absurd cc
    ends-one (goes_on next comes wave more) (rests quiet) = absurd cc
    ends-one {earlier} {before} {second} {two} (goes_on {more = fewer} next comes wave more) (goes_on later another other rest) =
        let same : later ≡ next = wave-one earlier before later next other wave in
        ends-one more (subst (λ e. EndsAt fabric fewer before e second two) same rest)

    -- ---- one event

    event_after : Entry → Event → Entry
    event_after before event = (ends-there (wave_bound fabric) before (step_after before event)).1

    event-follows : (before : Entry) (event : Event) → Follows fabric before event (event_after before event)
    unfolding event_after
    event-follows before event =
        let ended = ends-there (wave_bound fabric) before (step_after before event) in
        record { first = step_after before event; prior = ended.0; first_step = step-follows before event; waves = ended.2 }

    follows-one : (before : Entry) (event : Event) (one two : Entry) → Follows fabric before event one → Follows fabric before event two → one ≡ two
    follows-one before event one two of_one of_two =
        let same : of_one.first ≡ of_two.first = step-one before event of_one.first of_two.first of_one.first_step of_two.first_step in
        ends-one (subst (λ e. EndsAt fabric (wave_bound fabric) before e of_one.prior one) same of_one.waves) of_two.waves

    -- ---- runs

    follow-there : (entry : Entry) (events : List Event) → (entries : List Entry) × FollowEach fabric entry events entries
    follow-there entry [] = ([], tt)
    follow-there entry (event ∷ events) =
        let rest = follow-there (event_after entry event) events in
        (event_after entry event ∷ rest.0, (event-follows entry event, rest.1))

    follow-one : (entry : Entry) (events : List Event) (one two : List Entry) → FollowEach fabric entry events one → FollowEach fabric entry events two → one ≡ two
    follow-one entry [] [] [] of_one of_two = refl
    follow-one entry [] (a ∷ one) two of_one of_two = absurd of_one
    follow-one entry [] [] (b ∷ two) of_one of_two = absurd of_two
    follow-one entry (event ∷ events) [] two of_one of_two = absurd of_one
    follow-one entry (event ∷ events) (a ∷ one) [] of_one of_two = absurd of_two
    follow-one entry (event ∷ events) (a ∷ one) (b ∷ two) of_one of_two =
        let same : a ≡ b = follows-one entry event a b of_one.0 of_two.0 in
        let rest : one ≡ two = follow-one b events one two (subst (λ e. FollowEach fabric e events one) same of_one.1) of_two.1 in
        cc

    first_entry : Entry
    first_entry = entry_of (replicate (length (inputs_of fabric)) false) (start_state fabric)

    first-is : IsFirst fabric first_entry
    unfolding first_entry
    first-is = record {
      entry_is = entry_of-is _ _;
      pins = entry_of-pins _ _;
      state = entry_of-state _ _;
    }

    first-one : (one two : Entry) → IsFirst fabric one → IsFirst fabric two → one ≡ two
    first-one one two of_one of_two =
        entry-one (start_state fabric) one two of_one.entry_is of_two.entry_is (of_one.pins ∙ sym of_two.pins) of_one.state of_two.state

    run-only : (events : List Event) (one two : List Entry) → IsRun fabric events one → IsRun fabric events two → one ≡ two
    run-only events [] two of_one of_two = absurd of_one
    run-only events (a ∷ one) [] of_one of_two = absurd of_two
    run-only events (a ∷ one) (b ∷ two) of_one of_two =
        let same : a ≡ b = first-one a b of_one.0 of_two.0 in
        let rest : one ≡ two = follow-one b events one two (subst (λ e. FollowEach fabric e events one) same of_one.1) of_two.1 in
        cc

    -- there is exactly one run for each list of events
    pub taken-run : (events : List Event) → ExactlyOne (IsRun fabric events)
    taken-run events =
        let rest = follow-there first_entry events in
        record {
          it = first_entry ∷ rest.0;
          is = (first-is, rest.1);
          only = λ entries is. run-only events entries (first_entry ∷ rest.0) is (first-is, rest.1);
        }

    -- ---- clocks in a run

    -- the clock nets of all users have the bits that the pins and the state give them
    abbrev HasClockBits : Entry → Type 0
    HasClockBits entry = ClocksAgree fabric (bit_in entry.v) (clock_bit fabric entry.state entry.pins)

    entry-clocks : (entry : Entry) → IsEntry fabric entry → entry.state ≡ settled_state fabric (bit_in entry.v) entry.state → HasClockBits entry
    entry-clocks entry is settled = clocks-agree entry.state entry.pins entry.v is.consistent (sym settled)

    follow-clocks : (entry : Entry) (events : List Event) (entries : List Entry) → FollowEach fabric entry events entries → AllByRecursion HasClockBits entries
    follow-clocks entry events [] follow = tt
    follow-clocks entry [] (next ∷ entries) follow = absurd follow
    follow-clocks entry (event ∷ events) (next ∷ entries) follow =
        (entry-clocks next (follows-entry fabric entry event next follow.0) (follows-settled fabric entry event next follow.0), follow-clocks next events entries follow.1)

    -- in each entry of a run they do
    pub run-clocks : (events : List Event) (entries : List Entry) → IsRun fabric events entries → AllByRecursion HasClockBits entries
    run-clocks events [] run = tt
    run-clocks events (first ∷ entries) run =
        (entry-clocks first run.0.entry_is (first-settled fabric first run.0), follow-clocks first events entries run.1)
