-- No driver of a database and an image stands twice: each pin, cell, carry input, RAM, global net and buffer is listed once, each
-- gives a driver of each kind at most once, and kinds differ.
use Rattle.std.proofs.Common.{◌≡◌, ◌≢◌, ℕ, suc, ◌<◌, ◌≤◌, ◌==◌, eq-eqb, ◌&&◌, true, false, not, List, [], ◌∷◌, map, ◌++◌, get_or, refl, sym, ap, ◌∙◌, subst, arith}
use Rattle.std.specs.Prelude.{All, Bool, Option, Some, None, filter, codes, if◌then◌else◌}
use Rattle.std.specs.List.{flat_map, IsDistinct, AllByRecursion}
use Rattle.std.proofs.lemmas.Bool.{and_from}
use Rattle.std.proofs.lemmas.List.Elements.{All-nil, All-cons, All-head, All-map, All-append, All-filter, All-weaker}
use Rattle.index_search.proofs.Gathered.{All-gathered_below}
use Rattle.plane_map.specs.declared.tile.TileKind.TheVariants.{Io, Logic, RamB}
use Rattle.ice_image.specs.Configuration.{Configuration}
use Rattle.chipdb_reader.specs.Database.{Database, Link, Pll}
use Rattle.chipdb_reader.specs.Fit.{IsFit, IsPlacedPll, is_same_tile}
use Rattle.chipdb_reader.specs.declared.items.PinXy.{PinXy}
use Rattle.fabric_model.specs.declared.cell.LogicCell.{LogicCell}
use Rattle.fabric_model.specs.declared.lut_inputs.LutInputs.{LutInputs}
use Rattle.fabric_model.specs.declared.cell.CarrySet.{CarrySet}
use Rattle.fabric_model.specs.declared.register.Register.{Register}
use Rattle.fabric_model.specs.declared.ram.RamCell.{RamCell}
use Rattle.fabric_model.specs.declared.pin.Pin.{Pin}
use Rattle.fabric_model.specs.declared.pin.GlobalNet.{GlobalNet}
use Rattle.fabric_model.specs.declared.pll.PllOutput.{PllOutput}
use Rattle.fabric_model.specs.declared.pll.PllOutput.TheVariants as output
use Rattle.fabric_model.specs.declared.pll.PllType.{PllType}
use Rattle.fabric_model.specs.declared.pll.PllType.TheVariants.{Off, OneOutput, TwoOutputs, Unknown}
use Rattle.fabric_model.specs.declared.pll.PllSource.{PllSource}
use Rattle.fabric_model.specs.declared.pin.GlobalFrom.{GlobalFrom}
use Rattle.fabric_model.specs.declared.input_port.InputPort.TheVariants.{Pad as PadPort}
use Rattle.fabric_model.specs.declared.options.FabricOptions.{FabricOptions}
use Rattle.fabric_model.specs.declared.register.PinRegister.{PinRegister}
use Rattle.fabric_model.specs.declared.register.PinRegister.TheVariants as kind
use Rattle.fabric_model.specs.declared.register.RegisterKind.{RegisterKind}
use Rattle.fabric_model.specs.declared.register.RegisterKind.TheVariants.{FlipFlop, OfPin}
use Rattle.fabric_model.specs.declared.driver.Driver.{Driver}
use Rattle.fabric_model.specs.declared.driver.Driver.TheVariants as driver
use Rattle.fabric_model.specs.On.{is_link_on, is_function_on}
use Rattle.fabric_model.specs.Nets.{net_named}
use Rattle.fabric_model.specs.Tiles.{each_below, item_if}
use Rattle.fabric_model.specs.Cells.{cell_bits, cell_with, is_used, used_cell, cells_at, cells_of, set_with, sets_at, sets_of}
use Rattle.fabric_model.specs.Rams.{is_ram_used, ram_at, rams_of}
use Rattle.fabric_model.specs.PinTypes.{has_table, takes_pad}
use Rattle.fabric_model.specs.Pins.{PinPlace, pin_places, drives, has_outside, pin_with, port_at, pins_of, is_global_net, global_nets, nets_from, global_source, globals_of}
use Rattle.fabric_model.specs.InputPorts.{input_place, pll_place}
use Rattle.fabric_model.specs.Plls.{output_number, outputs_in, output_pin, pll_type, clock_source, source_of, sources_in, pll_sources}
use Rattle.fabric_model.specs.PllPorts.{is_source_read, pll_ports}
use Rattle.fabric_model.specs.Fabric.{Fabric, Buffer, numbered, buffer_of, buffers_of, fabric_with}
use Rattle.fabric_model.specs.Registers.{table_of, register_of, flips_among, registers_of, registers_in, kind_number, pin_register, pin_registers_of}
use Rattle.fabric_model.specs.Drivers.{Rule, Drive, drives_if, drives_by, pin_drives, pll_drives, pad_of, is_read_back, back_drives, lut_drives, flip_driver, flip_drives, lout_drives, carry_drives, set_drives, read_data_rule, ram_drive, ram_drives, global_drives, buffer_drives, input_driver, input_drives, second_driver, second_drives, data_table, data_drives, pad_table, pad_drives, global_rule, drives_of, is_driver_of, drivers_of}
use Rattle.fabric_model.proofs.Within.{All-flat_map, All-if, All-item_if, All-single}
use Rattle.fabric_model.proofs.Apart.{AreApart, apart-single, apart-if, apart-item_if, apart-append, apart-weaker, apart-filter, apart-map, apart-flat_map, apart-gathered, apart-over_tiles, All-every, numbered-apart, apart-numbered}

-- ---- parts that differ

abbrev pub PinsDiffer : Pin → Pin → Type 0
PinsDiffer one two = one.x ≡ two.x → one.y ≡ two.y → one.n ≡ two.n → ⊥

abbrev pub CellsDiffer : LogicCell → LogicCell → Type 0
CellsDiffer one two = one.x ≡ two.x → one.y ≡ two.y → one.i ≡ two.i → ⊥

abbrev pub RegistersDiffer : Register → Register → Type 0
RegistersDiffer one two = one.x ≡ two.x → one.y ≡ two.y → one.kind ≡ two.kind → ⊥

abbrev pub SetsDiffer : CarrySet → CarrySet → Type 0
SetsDiffer one two = one.x ≡ two.x → one.y ≡ two.y → ⊥

abbrev pub RamsDiffer : RamCell → RamCell → Type 0
RamsDiffer one two = one.x ≡ two.x → one.y ≡ two.y → ⊥

abbrev pub PllsDiffer : PllSource → PllSource → Type 0
PllsDiffer one two = one.x ≡ two.x → one.y ≡ two.y → one.output ≡ two.output → ⊥

abbrev pub GlobalsDiffer : GlobalNet → GlobalNet → Type 0
GlobalsDiffer one two = one.g ≡ two.g → one.net ≡ two.net → ⊥

abbrev pub BuffersDiffer : Buffer → Buffer → Type 0
BuffersDiffer one two = one.line ≡ two.line → ⊥

-- the parts of a fabric differ, each from all after it
pub record ArePartsApart (fabric : Fabric) : Type 0 where
  pub pins : AreApart PinsDiffer fabric.pins
  pub plls : AreApart PllsDiffer fabric.plls
  pub lcs : AreApart CellsDiffer fabric.lcs
  pub registers : AreApart RegistersDiffer fabric.registers
  pub sets : AreApart SetsDiffer fabric.sets
  pub rams : AreApart RamsDiffer fabric.rams
  pub globals : AreApart GlobalsDiffer fabric.globals
  pub buffers : AreApart BuffersDiffer fabric.buffers

-- whether a register is the flip-flop of a cell
is_flip_flop : RegisterKind → Bool
is_flip_flop (FlipFlop i) = true
is_flip_flop (OfPin n register) = false

abbrev KindsDiffer : PinRegister → PinRegister → Type 0
KindsDiffer one two = one ≢ two

-- registers of a pin in the order of their kinds, from a kind on
record IsFromRegister (number : ℕ) (registers : List PinRegister) : Type 0 where
  apart : AreApart KindsDiffer registers
  all : All (λ register. number ≤ kind_number register) registers

register-last : (passes : Bool) (register : PinRegister) → IsFromRegister (kind_number register) (item_if passes register)
register-last passes register = record {
  apart = apart-item_if KindsDiffer passes register;
  all = All-item_if (λ other. kind_number register ≤ kind_number other) passes register (omega arith);
}

register-then : (passes : Bool) (register : PinRegister) (more : List PinRegister) → IsFromRegister (suc (kind_number register)) more
    → IsFromRegister (kind_number register) (item_if passes register ++ more)
register-then false register more from = record {
  apart = from.apart;
  all = All-weaker (λ other. suc (kind_number register) ≤ kind_number other) (λ other. kind_number register ≤ kind_number other) (λ other later. omega (arith, later)) more from.all;
}
register-then true register more from = record {
  apart = (
    All-weaker (λ other. suc (kind_number register) ≤ kind_number other) (KindsDiffer register)
        (λ other later same. let numbers : kind_number register ≡ kind_number other = ap kind_number same in absurd (omega (arith, later, numbers))) more from.all,
    from.apart,
  );
  all = All-cons (λ other. kind_number register ≤ kind_number other) register more (omega arith)
      (All-weaker (λ other. suc (kind_number register) ≤ kind_number other) (λ other. kind_number register ≤ kind_number other) (λ other later. omega (arith, later)) more from.all);
}

-- nothing more is known of them
abbrev AnyPart : {A : Type 0} → A → Type 0
AnyPart part = Unit {0}

module _ (db : Database) (image : Configuration) where
  -- ---- pins

  -- two places of pins differ
  abbrev PlacesDiffer : PinPlace → PinPlace → Type 0
  PlacesDiffer one two = one.x ≡ two.x → one.y ≡ two.y → one.n ≡ two.n → ⊥

  places-apart : AreApart PlacesDiffer (pin_places image.layout.device)
  unfolding pin_places
  places-apart =
      apart-over_tiles PlacesDiffer AnyPart (λ place. place.x) (λ place. place.y) (λ a b of_a of_b other x y n. absurd (other x)) (λ a b of_a of_b other x y n. absurd (other y))
      image.layout.device Io (λ x y. each_below 2 (λ n. record { x = x; y = y; n = n }))
      (λ x y left low. All-gathered_below (λ (place : PinPlace). Unit {0} × (place.x ≡ x) × (place.y ≡ y)) 2 (λ n. record { x = x; y = y; n = n } ∷ [])
      (λ n few. All-single (λ (place : PinPlace). Unit {0} × (place.x ≡ x) × (place.y ≡ y)) (record { x = x; y = y; n = n }) (tt, refl, refl)))
      (λ x y left low. apart-gathered PlacesDiffer AnyPart (λ place. place.n) (λ a b of_a of_b other same_x same_y n. absurd (other n)) 2 (λ n. record { x = x; y = y; n = n } ∷ [])
      (λ n few. All-single (λ (place : PinPlace). Unit {0} × (place.n ≡ n)) (record { x = x; y = y; n = n }) (tt, refl))
      (λ n few. apart-single PlacesDiffer (record { x = x; y = y; n = n })))

  -- a pin is at its place
  abbrev IsAtPlace : PinPlace → Pin → Type 0
  IsAtPlace place pin = (pin.x ≡ place.x) × (pin.y ≡ place.y) × (pin.n ≡ place.n)

  pin-at : (all : Bool) (place : ℕ × PinPlace) → IsAtPlace place.1 (pin_with all db image place.0 place.1.x place.1.y place.1.n)
  unfolding pin_with
  pin-at all place = (refl, refl, refl)

  port-at : (all : Bool) (place : ℕ × PinPlace) → All (IsAtPlace place.1) (port_at all db image place)
  port-at all place = All-item_if (IsAtPlace place.1) _ (pin_with all db image place.0 place.1.x place.1.y place.1.n) (pin-at all place)

  pins-apart : (all : Bool) → AreApart PinsDiffer (pins_of all db image)
  unfolding pins_of
  pins-apart all =
      apart-flat_map PinsDiffer (λ (one two : ℕ × PinPlace). PlacesDiffer one.1 two.1) (port_at all db image)
      (λ a b other. All-weaker (IsAtPlace a.1) (λ one. All (PinsDiffer one) (port_at all db image b))
      (λ one of_one. All-weaker (IsAtPlace b.1) (PinsDiffer one)
      (λ two of_two x y n. other (sym of_one.0 ∙ (x ∙ of_two.0)) (sym of_one.1 ∙ (y ∙ of_two.1)) (sym of_one.2 ∙ (n ∙ of_two.2))) (port_at all db image b) (port-at all b))
      (port_at all db image a) (port-at all a))
      (λ place. apart-item_if PinsDiffer _ (pin_with all db image place.0 place.1.x place.1.y place.1.n))
      (numbered (pin_places image.layout.device)) (apart-numbered PlacesDiffer 0 (pin_places image.layout.device) places-apart)

  -- ---- cells

  abbrev cell_here : ℕ → ℕ → ℕ → LogicCell
  cell_here x y i = cell_with db image x y i (cell_bits db image x y i)

  cell-at : (x y i : ℕ) → Unit {0} × ((cell_here x y i).x ≡ x) × ((cell_here x y i).y ≡ y)
  unfolding cell_with
  cell-at x y i = (tt, refl, refl)

  cell-number : (x y i : ℕ) → Unit {0} × ((cell_here x y i).i ≡ i)
  unfolding cell_with
  cell-number x y i = (tt, refl)

  cells-apart : AreApart CellsDiffer (cells_of db image)
  unfolding cells_of cells_at
  cells-apart =
      apart-over_tiles CellsDiffer AnyPart (λ lc. lc.x) (λ lc. lc.y) (λ a b of_a of_b other x y i. absurd (other x)) (λ a b of_a of_b other x y i. absurd (other y))
      image.layout.device Logic (cells_at db image)
      (λ x y left low. All-gathered_below (λ (lc : LogicCell). Unit {0} × (lc.x ≡ x) × (lc.y ≡ y)) 8 (used_cell db image x y)
      (λ i few. All-item_if (λ (lc : LogicCell). Unit {0} × (lc.x ≡ x) × (lc.y ≡ y)) (is_used (cell_bits db image x y i)) (cell_here x y i) (cell-at x y i)))
      (λ x y left low. apart-gathered CellsDiffer AnyPart (λ lc. lc.i) (λ a b of_a of_b other same_x same_y i. absurd (other i)) 8 (used_cell db image x y)
      (λ i few. All-item_if (λ (lc : LogicCell). Unit {0} × (lc.i ≡ i)) (is_used (cell_bits db image x y i)) (cell_here x y i) (cell-number x y i))
      (λ i few. apart-item_if CellsDiffer (is_used (cell_bits db image x y i)) (cell_here x y i)))

  -- ---- registers

  flips-differ : (inputs : LutInputs) (one two : LogicCell) → CellsDiffer one two → RegistersDiffer (register_of inputs one) (register_of inputs two)
  unfolding register_of
  flips-differ inputs one two other x y kind = other x y (cc)

  flips-apart : (inputs : LutInputs) → AreApart RegistersDiffer (registers_of inputs (cells_of db image))
  unfolding registers_of
  flips-apart inputs =
      apart-map RegistersDiffer (register_of inputs) (filter (λ lc. lc.flip) (cells_of db image))
      (apart-weaker CellsDiffer (λ one two. RegistersDiffer (register_of inputs one) (register_of inputs two)) (flips-differ inputs) (filter (λ lc. lc.flip) (cells_of db image))
      (apart-filter CellsDiffer (λ lc. lc.flip) (cells_of db image) cells-apart))

  -- the registers of a pin differ
  registers_in-apart : (pin : Pin) → AreApart KindsDiffer (registers_in pin)
  registers_in-apart pin =
      (register-then _ kind.Input _ (register-then _ kind.SecondInput _ (register-then _ kind.InputClockEnable _ (register-then _ kind.Output _
      (register-then _ kind.SecondOutput _ (register-then _ kind.OutputClockEnable _ (register-last _ kind.OutputEnable))))))).apart

  pin_register-at : (flips : ℕ) (pins : List Pin) (pin : Pin) (register : PinRegister)
      → ((pin_register flips pins pin register).x ≡ pin.x) × ((pin_register flips pins pin register).y ≡ pin.y) × ((pin_register flips pins pin register).kind ≡ OfPin pin.n register)
  unfolding pin_register
  pin_register-at flips pins pin register = (refl, refl, refl)

  -- a register stands at its pin
  abbrev IsOfPin : Pin → Register → Type 0
  IsOfPin pin register = (register.x ≡ pin.x) × (register.y ≡ pin.y) × (of_pin : PinRegister) × (register.kind ≡ OfPin pin.n of_pin)

  registers-of_pin : (flips : ℕ) (pins : List Pin) (pin : Pin) → All (IsOfPin pin) (map (pin_register flips pins pin) (registers_in pin))
  registers-of_pin flips pins pin =
      All-map (IsOfPin pin) (pin_register flips pins pin) (registers_in pin)
      (All-every (λ register. IsOfPin pin (pin_register flips pins pin register))
      (λ register. let at = pin_register-at flips pins pin register in (at.0, at.1, register, at.2)) (registers_in pin))

  pin_registers-apart : (flips : ℕ) (pins : List Pin) → AreApart PinsDiffer pins → AreApart RegistersDiffer (pin_registers_of flips pins)
  unfolding pin_registers_of
  pin_registers-apart flips pins apart =
      apart-flat_map RegistersDiffer PinsDiffer (λ pin. map (pin_register flips pins pin) (registers_in pin))
      (λ a b other. All-weaker (IsOfPin a) (λ one. All (RegistersDiffer one) (map (pin_register flips pins b) (registers_in b)))
      (λ one of_one. All-weaker (IsOfPin b) (RegistersDiffer one)
      (λ two of_two x y kind.
      let both : OfPin a.n of_one.2 ≡ OfPin b.n of_two.2 = sym of_one.3 ∙ (kind ∙ of_two.3) in
      let number : a.n ≡ b.n = cc in
      other (sym of_one.0 ∙ (x ∙ of_two.0)) (sym of_one.1 ∙ (y ∙ of_two.1)) number)
      (map (pin_register flips pins b) (registers_in b)) (registers-of_pin flips pins b))
      (map (pin_register flips pins a) (registers_in a)) (registers-of_pin flips pins a))
      (λ pin. apart-map RegistersDiffer (pin_register flips pins pin) (registers_in pin)
      (apart-weaker KindsDiffer (λ one two. RegistersDiffer (pin_register flips pins pin one) (pin_register flips pins pin two))
      (λ one two other x y kind.
      let first = pin_register-at flips pins pin one in
      let second = pin_register-at flips pins pin two in
      let both : OfPin pin.n one ≡ OfPin pin.n two = sym first.2 ∙ (kind ∙ second.2) in
      let same : one ≡ two = cc in other same) (registers_in pin) (registers_in-apart pin)))
      pins apart

  flips-of_cells : (inputs : LutInputs) → All (λ (register : Register). is_flip_flop register.kind ≡ true) (registers_of inputs (cells_of db image))
  unfolding registers_of register_of is_flip_flop
  flips-of_cells inputs =
      All-map (λ (register : Register). is_flip_flop register.kind ≡ true) (register_of inputs) (filter (λ lc. lc.flip) (cells_of db image))
      (All-every (λ lc. is_flip_flop (register_of inputs lc).kind ≡ true) (λ lc. refl) (filter (λ lc. lc.flip) (cells_of db image)))

  pin_registers-of_pins : (flips : ℕ) (pins : List Pin) → All (λ (register : Register). is_flip_flop register.kind ≡ false) (pin_registers_of flips pins)
  unfolding pin_registers_of is_flip_flop
  pin_registers-of_pins flips pins =
      let IsPins = λ (register : Register). is_flip_flop register.kind ≡ false in
      All-flat_map IsPins (λ pin. map (pin_register flips pins pin) (registers_in pin)) pins
      (All-every (λ pin. All IsPins (map (pin_register flips pins pin) (registers_in pin)))
      (λ pin. All-weaker (IsOfPin pin) IsPins (λ register of_pin. ap is_flip_flop of_pin.3) (map (pin_register flips pins pin) (registers_in pin)) (registers-of_pin flips pins pin)) pins)

  -- a flip-flop and the register of a pin differ
  kinds-differ : (one two : Register) → is_flip_flop one.kind ≡ true → is_flip_flop two.kind ≡ false → RegistersDiffer one two
  kinds-differ one two of_cell of_pin x y kind =
      let both : true ≡ false = sym of_cell ∙ (ap is_flip_flop kind ∙ of_pin) in absurd cc

  registers-apart : (inputs : LutInputs) (all : Bool)
      → AreApart RegistersDiffer (registers_of inputs (cells_of db image) ++ pin_registers_of (flips_among (cells_of db image)) (pins_of all db image))
  registers-apart inputs all =
      let flips = registers_of inputs (cells_of db image) in
      let count = flips_among (cells_of db image) in
      let of_pins = pin_registers_of count (pins_of all db image) in
      apart-append RegistersDiffer flips of_pins (flips-apart inputs) (pin_registers-apart count (pins_of all db image) (pins-apart all))
      (All-weaker (λ (register : Register). is_flip_flop register.kind ≡ true) (λ one. All (RegistersDiffer one) of_pins)
      (λ one of_cell. All-weaker (λ (register : Register). is_flip_flop register.kind ≡ false) (RegistersDiffer one)
      (λ two of_pin. kinds-differ one two of_cell of_pin) of_pins (pin_registers-of_pins count (pins_of all db image))) flips (flips-of_cells inputs))

  -- ---- carry inputs that are set

  abbrev is_one_set : ℕ → ℕ → Bool
  is_one_set x y = is_function_on db image Logic x y (codes "CarryInSet")

  abbrev set_net : ℕ → ℕ → Option ℕ
  set_net x y = net_named db x y (codes "carry_in_mux")

  set-at : (x y : ℕ) (net : Option ℕ) → All (λ (set : CarrySet). Unit {0} × (set.x ≡ x) × (set.y ≡ y)) (set_with x y net)
  set-at x y None = All-nil (λ (set : CarrySet). Unit {0} × (set.x ≡ x) × (set.y ≡ y))
  set-at x y (Some net) = All-single (λ (set : CarrySet). Unit {0} × (set.x ≡ x) × (set.y ≡ y)) (record { x = x; y = y; net = net }) (tt, refl, refl)

  set-alone : (x y : ℕ) (net : Option ℕ) → AreApart SetsDiffer (set_with x y net)
  set-alone x y None = tt
  set-alone x y (Some net) = apart-single SetsDiffer (record { x = x; y = y; net = net })

  sets-apart : AreApart SetsDiffer (sets_of db image)
  unfolding sets_of
  sets-apart =
      apart-over_tiles SetsDiffer AnyPart (λ set. set.x) (λ set. set.y) (λ a b of_a of_b other x y. absurd (other x)) (λ a b of_a of_b other x y. absurd (other y))
      image.layout.device Logic (sets_at db image)
      (λ x y left low. All-if (λ (set : CarrySet). Unit {0} × (set.x ≡ x) × (set.y ≡ y)) (is_one_set x y) (set_with x y (set_net x y)) (set-at x y (set_net x y)))
      (λ x y left low. apart-if SetsDiffer (is_one_set x y) (set_with x y (set_net x y)) (set-alone x y (set_net x y)))

  -- ---- RAMs

  ram-at : (x y : ℕ) → Unit {0} × ((ram_at db image x y).x ≡ x) × ((ram_at db image x y).y ≡ y)
  unfolding ram_at
  ram-at x y = (tt, refl, refl)

  rams-apart : AreApart RamsDiffer (rams_of db image)
  unfolding rams_of
  rams-apart =
      apart-over_tiles RamsDiffer AnyPart (λ ram. ram.x) (λ ram. ram.y) (λ a b of_a of_b other x y. absurd (other x)) (λ a b of_a of_b other x y. absurd (other y))
      image.layout.device RamB (λ x y. item_if (is_ram_used db image x y) (ram_at db image x y))
      (λ x y left low. All-item_if (λ (ram : RamCell). Unit {0} × (ram.x ≡ x) × (ram.y ≡ y)) (is_ram_used db image x y) (ram_at db image x y) (ram-at x y))
      (λ x y left low. apart-item_if RamsDiffer (is_ram_used db image x y) (ram_at db image x y))

  -- ---- globals

  nets-apart : (g : ℕ) → AreApart (λ (one two : ℕ). one ≢ two) (global_nets db g)
  unfolding global_nets
  nets-apart g =
      apart-gathered (λ (one two : ℕ). one ≢ two) AnyPart (λ net. net) (λ a b of_a of_b other. other) db.chip.nets (λ net. item_if (is_global_net db g net) net)
      (λ net few. All-item_if (λ (n : ℕ). Unit {0} × (n ≡ net)) (is_global_net db g net) net (tt, refl))
      (λ net few. apart-item_if (λ (one two : ℕ). one ≢ two) (is_global_net db g net) net)

  abbrev global_at : ℕ → GlobalFrom → ℕ → GlobalNet
  global_at g from net = record { g = g; net = net; from = from }

  globals-at : (g : ℕ) (source : Option GlobalFrom) → All (λ (global : GlobalNet). Unit {0} × (global.g ≡ g)) (nets_from db g source)
  globals-at g None = All-nil (λ (global : GlobalNet). Unit {0} × (global.g ≡ g))
  globals-at g (Some from) =
      All-map (λ (global : GlobalNet). Unit {0} × (global.g ≡ g)) (global_at g from) (global_nets db g) (All-every (λ (net : ℕ). Unit {0} × (g ≡ g)) (λ net. (tt, refl)) (global_nets db g))

  nets_from-apart : (g : ℕ) (source : Option GlobalFrom) → AreApart GlobalsDiffer (nets_from db g source)
  nets_from-apart g None = tt
  nets_from-apart g (Some from) =
      apart-map GlobalsDiffer (global_at g from) (global_nets db g)
      (apart-weaker (λ (one two : ℕ). one ≢ two) (λ (one two : ℕ). GlobalsDiffer (global_at g from one) (global_at g from two)) (λ one two other same_g net. absurd (other net)) (global_nets db g) (nets-apart g))

  globals-apart : (all : Bool) → AreApart GlobalsDiffer (globals_of all db image)
  unfolding globals_of
  globals-apart all =
      let sources = pll_sources all db image in
      apart-gathered GlobalsDiffer AnyPart (λ global. global.g) (λ a b of_a of_b other g net. absurd (other g)) 8 (λ g. nets_from db g (global_source sources db image g))
      (λ g few. globals-at g (global_source sources db image g)) (λ g few. nets_from-apart g (global_source sources db image g))

  -- ---- PLLs

  -- two PLLs are not at one tile
  abbrev TilesDiffer : Pll → Pll → Type 0
  TilesDiffer one two = one.x ≡ two.x → one.y ≡ two.y → ⊥

  tile-differs : (one : Pll) (plls : List Pll) → AllByRecursion (λ other. is_same_tile one other ≡ false) plls → All (TilesDiffer one) plls
  tile-differs one [] all = All-nil (TilesDiffer one)
  tile-differs one (two ∷ plls) all =
      All-cons (TilesDiffer one) two plls
      (λ x y. let same : false ≡ true = sym all.0 ∙ and_from (two.x == one.x) (two.y == one.y) (eq-eqb two.x one.x (sym x)) (eq-eqb two.y one.y (sym y)) in absurd cc)
      (tile-differs one plls all.1)

  tiles-apart : (plls : List Pll) → IsDistinct is_same_tile plls → AreApart TilesDiffer plls
  unfolding IsDistinct
  tiles-apart [] distinct = tt
  tiles-apart (one ∷ plls) distinct = (tile-differs one plls distinct.0, tiles-apart plls distinct.1)

  -- an output of a PLL
  abbrev IsOutputOf : Pll → PllOutput → PllSource → Type 0
  IsOutputOf pll output port = (port.x ≡ pll.x) × (port.y ≡ pll.y) × (port.output ≡ output)

  clock_source-of : (pll : Pll) (output : PllOutput) (pin : Option PinXy) → All (IsOutputOf pll output) (clock_source db pll output pin)
  clock_source-of pll output None = All-nil (IsOutputOf pll output)
  clock_source-of pll output (Some pin) = All-single (IsOutputOf pll output) _ (refl, refl, refl)

  clock_source-apart : (pll : Pll) (output : PllOutput) (pin : Option PinXy) → AreApart PllsDiffer (clock_source db pll output pin)
  clock_source-apart pll output None = tt
  clock_source-apart pll output (Some pin) = (All-nil _, tt)

  source-of : (pll : Pll) (output : PllOutput) → All (IsOutputOf pll output) (source_of db image pll output)
  source-of pll output.A = clock_source-of pll output.A (output_pin image pll output.A)
  source-of pll output.B = clock_source-of pll output.B (output_pin image pll output.B)
  source-of pll output.Lock = All-single (IsOutputOf pll output.Lock) _ (refl, refl, refl)
  source-of pll output.Sdo = All-single (IsOutputOf pll output.Sdo) _ (refl, refl, refl)

  source-apart : (pll : Pll) (output : PllOutput) → AreApart PllsDiffer (source_of db image pll output)
  source-apart pll output.A = clock_source-apart pll output.A (output_pin image pll output.A)
  source-apart pll output.B = clock_source-apart pll output.B (output_pin image pll output.B)
  source-apart pll output.Lock = (All-nil _, tt)
  source-apart pll output.Sdo = (All-nil _, tt)

  abbrev OutputsDiffer : PllOutput → PllOutput → Type 0
  OutputsDiffer one two = one ≢ two

  outputs-differ : (a b : PllOutput) → output_number a < output_number b → OutputsDiffer a b
  outputs-differ a b less same = let numbers : output_number a ≡ output_number b = ap output_number same in absurd (omega (arith, less, numbers))

  outputs-apart : (kind : PllType) → AreApart OutputsDiffer (outputs_in kind)
  outputs-apart Off = tt
  outputs-apart OneOutput = (
    All-cons (OutputsDiffer output.A) output.Lock (output.Sdo ∷ []) (outputs-differ output.A output.Lock (omega arith))
        (All-cons (OutputsDiffer output.A) output.Sdo ([]) (outputs-differ output.A output.Sdo (omega arith)) (All-nil (OutputsDiffer output.A))),
    (
      All-cons (OutputsDiffer output.Lock) output.Sdo ([]) (outputs-differ output.Lock output.Sdo (omega arith)) (All-nil (OutputsDiffer output.Lock)),
      (All-nil (OutputsDiffer output.Sdo), tt),
    ),
  )
  outputs-apart TwoOutputs = (
    All-cons (OutputsDiffer output.A) output.B (output.Lock ∷ output.Sdo ∷ []) (outputs-differ output.A output.B (omega arith))
        (All-cons (OutputsDiffer output.A) output.Lock (output.Sdo ∷ []) (outputs-differ output.A output.Lock (omega arith))
        (All-cons (OutputsDiffer output.A) output.Sdo ([]) (outputs-differ output.A output.Sdo (omega arith)) (All-nil (OutputsDiffer output.A)))),
    (
      All-cons (OutputsDiffer output.B) output.Lock (output.Sdo ∷ []) (outputs-differ output.B output.Lock (omega arith))
          (All-cons (OutputsDiffer output.B) output.Sdo ([]) (outputs-differ output.B output.Sdo (omega arith)) (All-nil (OutputsDiffer output.B))),
      (
        All-cons (OutputsDiffer output.Lock) output.Sdo ([]) (outputs-differ output.Lock output.Sdo (omega arith)) (All-nil (OutputsDiffer output.Lock)),
        (All-nil (OutputsDiffer output.Sdo), tt),
      ),
    ),
  )
  outputs-apart Unknown = (
    All-cons (OutputsDiffer output.Lock) output.Sdo ([]) (outputs-differ output.Lock output.Sdo (omega arith)) (All-nil (OutputsDiffer output.Lock)),
    (All-nil (OutputsDiffer output.Sdo), tt),
  )

  -- outputs that differ
  outputs-across : (pll : Pll) (a b : PllOutput) → a ≢ b → All (λ one. All (PllsDiffer one) (source_of db image pll b)) (source_of db image pll a)
  outputs-across pll a b other =
      All-weaker (IsOutputOf pll a) (λ one. All (PllsDiffer one) (source_of db image pll b))
      (λ one of_a. All-weaker (IsOutputOf pll b) (PllsDiffer one) (λ two of_b x y same. other (sym of_a.2 ∙ (same ∙ of_b.2))) (source_of db image pll b) (source-of pll b))
      (source_of db image pll a) (source-of pll a)

  abbrev IsOfPll : Pll → PllSource → Type 0
  IsOfPll pll source = (source.x ≡ pll.x) × (source.y ≡ pll.y)

  sources-of : (pll : Pll) → All (IsOfPll pll) (sources_in db image pll)
  unfolding sources_in
  sources-of pll =
      All-flat_map (IsOfPll pll) (source_of db image pll) (outputs_in (pll_type db image pll))
      (All-every (λ output. All (IsOfPll pll) (source_of db image pll output))
      (λ output. All-weaker (IsOutputOf pll output) (IsOfPll pll) (λ source is. (is.0, is.1)) (source_of db image pll output) (source-of pll output))
      (outputs_in (pll_type db image pll)))

  sources-apart : (pll : Pll) → AreApart PllsDiffer (sources_in db image pll)
  unfolding sources_in
  sources-apart pll =
      apart-flat_map PllsDiffer OutputsDiffer (source_of db image pll) (outputs-across pll) (source-apart pll) (outputs_in (pll_type db image pll))
      (outputs-apart (pll_type db image pll))

  pub plls-apart : (all : Bool) → IsFit db → AreApart PllsDiffer (pll_ports all db image)
  unfolding pll_ports pll_sources
  plls-apart all fit =
      apart-filter PllsDiffer (is_source_read db image) (pll_sources all db image)
      (apart-if PllsDiffer all (flat_map (sources_in db image) db.plls)
      (apart-flat_map PllsDiffer TilesDiffer (sources_in db image)
      (λ a b other. All-weaker (IsOfPll a) (λ one. All (PllsDiffer one) (sources_in db image b))
      (λ one of_a. All-weaker (IsOfPll b) (PllsDiffer one) (λ two of_b x y same. other (sym of_a.0 ∙ (x ∙ of_b.0)) (sym of_a.1 ∙ (y ∙ of_b.1))) (sources_in db image b) (sources-of b))
      (sources_in db image a) (sources-of a))
      sources-apart db.plls (tiles-apart db.plls fit.plls_apart)))

  -- their places have few digits
  abbrev IsPlacedSource : PllSource → Type 0
  IsPlacedSource source = (source.x < 1000000000) × (source.y < 1000000000)

  pub plls-placed : (all : Bool) → IsFit db → All IsPlacedSource (pll_ports all db image)
  unfolding pll_ports pll_sources
  plls-placed all fit =
      All-filter (is_source_read db image) IsPlacedSource (pll_sources all db image)
      (All-if IsPlacedSource all (flat_map (sources_in db image) db.plls)
      (All-flat_map IsPlacedSource (sources_in db image) db.plls
      (All-weaker IsPlacedPll (λ pll. All IsPlacedSource (sources_in db image pll))
      (λ pll placed. All-weaker (IsOfPll pll) IsPlacedSource (λ source of. (omega (arith, of.0, placed.x_few), omega (arith, of.1, placed.y_few))) (sources_in db image pll) (sources-of pll))
      db.plls fit.plls)))

  -- ---- buffers

  buffers-apart : AreApart BuffersDiffer (buffers_of db image)
  unfolding buffers_of
  buffers-apart =
      apart-map BuffersDiffer buffer_of (filter (λ place. is_link_on image place.1) (numbered db.buffers))
      (apart-filter (λ (one two : ℕ × Link). one.0 ≢ two.0) (λ place. is_link_on image place.1) (numbered db.buffers) (numbered-apart 0 db.buffers))

  -- the parts that a database and an image configure are apart
  pub parts-apart : (options : FabricOptions) → IsFit db → ArePartsApart (fabric_with options db image)
  unfolding fabric_with
  parts-apart options fit = record { pins = pins-apart options.all_pins; plls = plls-apart options.all_pins fit; lcs = cells-apart; registers = registers-apart options.lut_inputs options.all_pins; sets = sets-apart; rams = rams-apart; globals = globals-apart options.all_pins; buffers = buffers-apart }

-- ---- drivers that differ

abbrev DriversDiffer : Drive → Drive → Type 0
DriversDiffer one two = one.driver ≢ two.driver

-- the number of a driver's kind in the order of drivers
abbrev number_of : Driver → ℕ
number_of (driver.Pin x y n) = 1
number_of (driver.Readback x y n) = 2
number_of (driver.Lut x y i) = 3
number_of (driver.FlipFlop x y i) = 4
number_of (driver.LutOut x y i) = 5
number_of (driver.Carry x y i) = 6
number_of (driver.CarrySet x y) = 7
number_of (driver.Ram x y bit) = 8
number_of (driver.Global g net) = 9
number_of (driver.Link line) = 10
number_of (driver.PinReg x y n) = 11
number_of (driver.PinReg1 x y n) = 12
number_of (driver.Data x y n) = 13
number_of (driver.Pad x y n) = 14
number_of (driver.PllOut x y output) = 15

-- drivers of one kind, each distinct from all after it
record IsOfKind (number : ℕ) (drives : List Drive) : Type 0 where
  apart : AreApart DriversDiffer drives
  all : All (λ drive. number_of drive.driver ≡ number) drives

-- drivers from a kind on
record IsFromKind (number : ℕ) (drives : List Drive) : Type 0 where
  apart : AreApart DriversDiffer drives
  all : All (λ drive. number ≤ number_of drive.driver) drives

last-kind : (number : ℕ) (drives : List Drive) → IsOfKind number drives → IsFromKind number drives
last-kind number drives of_kind = record {
  apart = of_kind.apart;
  all = All-weaker (λ drive. number_of drive.driver ≡ number) (λ drive. number ≤ number_of drive.driver) (λ drive is. omega (arith, is)) drives of_kind.all;
}

then-kinds : (number : ℕ) (drives more : List Drive) → IsOfKind number drives → IsFromKind (suc number) more → IsFromKind number (drives ++ more)
then-kinds number drives more of_kind after = record {
  apart = apart-append DriversDiffer drives more of_kind.apart after.apart
      (All-weaker (λ drive. number_of drive.driver ≡ number) (λ one. All (DriversDiffer one) more)
      (λ one is. All-weaker (λ drive. suc number ≤ number_of drive.driver) (DriversDiffer one)
      (λ two later same. let numbers : number_of one.driver ≡ number_of two.driver = ap number_of same in absurd (omega (arith, is, later, numbers))) more after.all) drives of_kind.all);
  all = All-append (λ drive. number ≤ number_of drive.driver) drives more (last-kind number drives of_kind).all
      (All-weaker (λ drive. suc number ≤ number_of drive.driver) (λ drive. number ≤ number_of drive.driver) (λ drive later. omega (arith, later)) more after.all);
}

drives_if-all : (P : Driver → Type 0) (by : Driver) (rule : Rule) (net : Option ℕ) → P by → All (λ (drive : Drive). P drive.driver) (drives_if by rule net)
drives_if-all P by rule None is = All-nil (λ (drive : Drive). P drive.driver)
drives_if-all P by rule (Some net) is = All-single (λ (drive : Drive). P drive.driver) (record { driver = by; net = net; rule = rule }) is

drives_if-apart : (by : Driver) (rule : Rule) (net : Option ℕ) → AreApart DriversDiffer (drives_if by rule net)
drives_if-apart by rule None = tt
drives_if-apart by rule (Some net) = apart-single DriversDiffer (record { driver = by; net = net; rule = rule })

-- what parts give that are apart
module _ {A : Type 0} (Q : A → A → Type 0) (given : A → List Drive) (Is : A → Driver → Type 0) where
  gives-apart : ((a : A) → All (λ drive. Is a drive.driver) (given a)) → ((a : A) → AreApart DriversDiffer (given a))
      → ((a b : A) → Q a b → (one two : Driver) → Is a one → Is b two → one ≢ two)
      → (parts : List A) → AreApart Q parts → AreApart DriversDiffer (flat_map given parts)
  gives-apart told inside differ parts apart =
      apart-flat_map DriversDiffer Q given
      (λ a b other. All-weaker (λ drive. Is a drive.driver) (λ one. All (DriversDiffer one) (given b))
      (λ one of_one. All-weaker (λ drive. Is b drive.driver) (DriversDiffer one) (λ two of_two. differ a b other one.driver two.driver of_one of_two) (given b) (told b)) (given a) (told a))
      inside parts apart

  -- what such parts give where all is of one kind
  gives-kind : (number : ℕ) → ((a : A) (d : Driver) → Is a d → number_of d ≡ number) → ((a : A) → All (λ drive. Is a drive.driver) (given a)) → ((a : A) → AreApart DriversDiffer (given a))
      → ((a b : A) → Q a b → (one two : Driver) → Is a one → Is b two → one ≢ two)
      → (parts : List A) → AreApart Q parts → IsOfKind number (flat_map given parts)
  gives-kind number kind told inside differ parts apart = record {
    apart = gives-apart told inside differ parts apart;
    all = All-flat_map (λ drive. number_of drive.driver ≡ number) given parts
        (All-every (λ a. All (λ drive. number_of drive.driver ≡ number) (given a))
        (λ a. All-weaker (λ drive. Is a drive.driver) (λ drive. number_of drive.driver ≡ number) (λ drive of_a. kind a drive.driver of_a) (given a) (told a)) parts);
  }

-- parts that have a driver of one kind each
module _ {A : Type 0} (Q : A → A → Type 0) (by : A → Driver) (rule : A → Rule) (net : A → Option ℕ) where
  abbrev drives_each : A → List Drive
  drives_each part = drives_if (by part) (rule part) (net part)

  each-kind : (number : ℕ) → ((a : A) → number_of (by a) ≡ number) → ((a b : A) → Q a b → by a ≢ by b)
      → (parts : List A) → AreApart Q parts → IsOfKind number (flat_map drives_each parts)
  each-kind number is differ parts apart =
      gives-kind Q drives_each (λ a d. d ≡ by a) number (λ a d of_a. ap number_of of_a ∙ is a) (λ a. drives_if-all (λ d. d ≡ by a) (by a) (rule a) (net a) refl)
      (λ a. drives_if-apart (by a) (rule a) (net a)) (λ a b other one two of_one of_two same. differ a b other (sym of_one ∙ (same ∙ of_two))) parts apart

-- the bits of RAMs
abbrev IsBitOf : ℕ × RamCell → Driver → Type 0
IsBitOf place by = (bit : ℕ) × (by ≡ driver.Ram place.1.x place.1.y bit)

ram_drive-all : (P : Driver → Type 0) (place : ℕ × RamCell) → ((bit : ℕ) → P (driver.Ram place.1.x place.1.y bit)) → All (λ (drive : Drive). P drive.driver) (ram_drives place)
ram_drive-all P place each =
    All-flat_map (λ (drive : Drive). P drive.driver) (ram_drive place) (numbered place.1.rdata)
    (All-every (λ port. All (λ (drive : Drive). P drive.driver) (ram_drive place port)) (λ port. drives_if-all P (driver.Ram place.1.x place.1.y port.0) _ port.1 (each port.0)) (numbered place.1.rdata))

ram_drives-apart : (place : ℕ × RamCell) → AreApart DriversDiffer (ram_drives place)
ram_drives-apart place =
    (each-kind (λ (one two : ℕ × Option ℕ). one.0 ≢ two.0) (λ port. driver.Ram place.1.x place.1.y port.0) (λ port. read_data_rule place.0 place.1.read port.0) (λ port. port.1)
    8 (λ port. refl) (λ a b other same. other (cc)) (numbered place.1.rdata) (numbered-apart 0 place.1.rdata)).apart

rams-kind : (rams : List RamCell) → AreApart RamsDiffer rams → IsOfKind 8 (flat_map ram_drives (numbered rams))
rams-kind rams apart =
    gives-kind (λ (one two : ℕ × RamCell). RamsDiffer one.1 two.1) ram_drives IsBitOf 8 (λ place d of_place. ap number_of of_place.1)
    (λ place. ram_drive-all (IsBitOf place) place (λ bit. (bit, refl))) ram_drives-apart
    (λ a b other one two of_one of_two same.
    let both : driver.Ram a.1.x a.1.y of_one.0 ≡ driver.Ram b.1.x b.1.y of_two.0 = sym of_one.1 ∙ (same ∙ of_two.1) in other (cc) (cc))
    (numbered rams) (apart-numbered RamsDiffer 0 rams apart)

-- ---- registers as drivers

-- the registers that are drivers of a kind
record AreDrivers (number : ℕ) (driver_of : Register → RegisterKind → Option Driver) : Type 0 where
  kind : (register : Register) (is : RegisterKind) (by : Driver) → Some by ≡ driver_of register is → number_of by ≡ number
  tells : (one two : Register) (is other : RegisterKind) (by : Driver) → Some by ≡ driver_of one is → Some by ≡ driver_of two other
      → (one.x ≡ two.x) × (one.y ≡ two.y) × (is ≡ other)

flip-kind : (register : Register) (is : RegisterKind) (by : Driver) → Some by ≡ flip_driver register is → number_of by ≡ 4
flip-kind register (FlipFlop i) by told = let same : by ≡ driver.FlipFlop register.x register.y i = cc in ap number_of same
flip-kind register (OfPin n of_pin) by told = absurd cc

flip-tells : (one two : Register) (is other : RegisterKind) (by : Driver) → Some by ≡ flip_driver one is → Some by ≡ flip_driver two other
    → (one.x ≡ two.x) × (one.y ≡ two.y) × (is ≡ other)
flip-tells one two (FlipFlop i) (FlipFlop k) by first second =
    let same : driver.FlipFlop one.x one.y i ≡ driver.FlipFlop two.x two.y k = cc in
    let number : i ≡ k = cc in (cc, cc, ap FlipFlop number)
flip-tells one two (FlipFlop i) (OfPin m of_pin) by first second = absurd cc
flip-tells one two (OfPin n of_pin) other by first second = absurd cc

input-kind : (register : Register) (is : RegisterKind) (by : Driver) → Some by ≡ input_driver register is → number_of by ≡ 11
input-kind register (FlipFlop i) by told = absurd cc
input-kind register (OfPin n kind.Input) by told = let same : by ≡ driver.PinReg register.x register.y n = cc in ap number_of same
input-kind register (OfPin n of_pin) by told = absurd cc

input-tells : (one two : Register) (is other : RegisterKind) (by : Driver) → Some by ≡ input_driver one is → Some by ≡ input_driver two other
    → (one.x ≡ two.x) × (one.y ≡ two.y) × (is ≡ other)
input-tells one two (OfPin n kind.Input) (OfPin m kind.Input) by first second =
    let same : driver.PinReg one.x one.y n ≡ driver.PinReg two.x two.y m = cc in
    let number : n ≡ m = cc in (cc, cc, ap (λ k. OfPin k kind.Input) number)
input-tells one two (OfPin n kind.Input) (FlipFlop k) by first second = absurd cc
input-tells one two (OfPin n kind.Input) (OfPin m of_pin) by first second = absurd cc
input-tells one two (FlipFlop i) other by first second = absurd cc
input-tells one two (OfPin n of_pin) other by first second = absurd cc

second-kind : (register : Register) (is : RegisterKind) (by : Driver) → Some by ≡ second_driver register is → number_of by ≡ 12
second-kind register (FlipFlop i) by told = absurd cc
second-kind register (OfPin n kind.SecondInput) by told = let same : by ≡ driver.PinReg1 register.x register.y n = cc in ap number_of same
second-kind register (OfPin n of_pin) by told = absurd cc

second-tells : (one two : Register) (is other : RegisterKind) (by : Driver) → Some by ≡ second_driver one is → Some by ≡ second_driver two other
    → (one.x ≡ two.x) × (one.y ≡ two.y) × (is ≡ other)
second-tells one two (OfPin n kind.SecondInput) (OfPin m kind.SecondInput) by first second =
    let same : driver.PinReg1 one.x one.y n ≡ driver.PinReg1 two.x two.y m = cc in
    let number : n ≡ m = cc in (cc, cc, ap (λ k. OfPin k kind.SecondInput) number)
second-tells one two (OfPin n kind.SecondInput) (FlipFlop k) by first second = absurd cc
second-tells one two (OfPin n kind.SecondInput) (OfPin m of_pin) by first second = absurd cc
second-tells one two (FlipFlop i) other by first second = absurd cc
second-tells one two (OfPin n of_pin) other by first second = absurd cc

module _ (number : ℕ) (driver_of : Register → RegisterKind → Option Driver) (are : AreDrivers number driver_of) where
  abbrev register_given : ℕ × Register → List Drive
  register_given place = drives_by place (driver_of place.1 place.1.kind)

  abbrev IsBy : ℕ × Register → Driver → Type 0
  IsBy place by = Some by ≡ driver_of place.1 place.1.kind

  by-all : (place : ℕ × Register) (by : Option Driver) → All (λ (drive : Drive). Some drive.driver ≡ by) (drives_by place by)
  by-all place None = All-nil (λ (drive : Drive). Some drive.driver ≡ None)
  by-all place (Some by) = drives_if-all (λ d. Some d ≡ Some by) by (Rule.register_bit place.0 place.1) place.1.out refl

  by-apart : (place : ℕ × Register) (by : Option Driver) → AreApart DriversDiffer (drives_by place by)
  by-apart place None = tt
  by-apart place (Some by) = drives_if-apart by (Rule.register_bit place.0 place.1) place.1.out

  registers-kind : (registers : List Register) → AreApart RegistersDiffer registers → IsOfKind number (flat_map register_given (numbered registers))
  registers-kind registers apart =
      gives-kind (λ (one two : ℕ × Register). RegistersDiffer one.1 two.1) register_given IsBy number (λ place d is. are.kind place.1 place.1.kind d is)
      (λ place. by-all place (driver_of place.1 place.1.kind)) (λ place. by-apart place (driver_of place.1 place.1.kind))
      (λ a b other one two of_one of_two same.
      let found = are.tells a.1 b.1 a.1.kind b.1.kind one of_one (ap (λ d. Some d) same ∙ of_two) in other found.0 found.1 found.2)
      (numbered registers) (apart-numbered RegistersDiffer 0 registers apart)

-- the other kinds
module _ (fabric : Fabric) (parts : ArePartsApart fabric) where
  -- what pins drive, of which each drives one net at most
  module _ (by : Pin → Driver) (is_there : Pin → Bool) (rule : Pin → Rule) (net : Pin → Option ℕ) where
    pins-kind : (number : ℕ) → ((pin : Pin) → number_of (by pin) ≡ number) → ((a b : Pin) → PinsDiffer a b → by a ≢ by b)
        → IsOfKind number (flat_map (λ pin. if is_there pin then drives_if (by pin) (rule pin) (net pin) else []) fabric.pins)
    pins-kind number is differ =
        gives-kind PinsDiffer (λ pin. if is_there pin then drives_if (by pin) (rule pin) (net pin) else []) (λ pin d. d ≡ by pin)
        number (λ pin d of_pin. ap number_of of_pin ∙ is pin)
        (λ pin. All-if (λ (drive : Drive). drive.driver ≡ by pin) (is_there pin) _ (drives_if-all (λ d. d ≡ by pin) (by pin) (rule pin) (net pin) refl))
        (λ pin. apart-if DriversDiffer (is_there pin) _ (drives_if-apart (by pin) (rule pin) (net pin)))
        (λ a b other one two of_one of_two same. differ a b other (sym of_one ∙ (same ∙ of_two))) fabric.pins parts.pins

  inputs-kind : IsOfKind 1 (flat_map (pin_drives fabric.pins) fabric.pins)
  inputs-kind =
      pins-kind (λ pin. driver.Pin pin.x pin.y pin.n) (λ pin. not (drives pin) && takes_pad pin.takes)
      (λ pin. Rule.pin_bit (input_place fabric.pins (PadPort pin.x pin.y pin.n))) (λ pin. pin.din_0) 1 (λ pin. refl) (λ a b other same. other (cc) (cc) (cc))

  backs-kind : IsOfKind 2 (flat_map (back_drives fabric) fabric.pins)
  backs-kind =
      pins-kind (λ pin. driver.Readback pin.x pin.y pin.n) is_read_back (λ pin. Rule.input (pad_of fabric pin)) (λ pin. pin.din_0)
      2 (λ pin. refl) (λ a b other same. other (cc) (cc) (cc))

  data-kind : IsOfKind 13 (flat_map (data_drives fabric) fabric.pins)
  data-kind =
      pins-kind (λ pin. driver.Data pin.x pin.y pin.n) (λ pin. drives pin && has_table pin.sends) (λ pin. Rule.table_entry (data_table fabric pin)) (λ pin. pin.data_net)
      13 (λ pin. refl) (λ a b other same. other (cc) (cc) (cc))

  pads-kind : IsOfKind 14 (flat_map (pad_drives fabric) fabric.pins)
  pads-kind =
      pins-kind (λ pin. driver.Pad pin.x pin.y pin.n) has_outside (λ pin. Rule.table_entry (pad_table fabric pin)) (λ pin. pin.pad_net)
      14 (λ pin. refl) (λ a b other same. other (cc) (cc) (cc))

  luts-kind : IsOfKind 3 (flat_map (lut_drives fabric.lut_inputs) (filter (λ lc. not lc.flip) fabric.lcs))
  luts-kind =
      each-kind CellsDiffer (λ lc. driver.Lut lc.x lc.y lc.i) (λ lc. Rule.table_entry (table_of fabric.lut_inputs lc)) (λ lc. lc.out)
      3 (λ lc. refl) (λ a b other same. other (cc) (cc) (cc)) (filter (λ lc. not lc.flip) fabric.lcs) (apart-filter CellsDiffer (λ lc. not lc.flip) fabric.lcs parts.lcs)

  flips-kind : IsOfKind 4 (flat_map flip_drives (numbered fabric.registers))
  flips-kind = registers-kind 4 flip_driver (record { kind = flip-kind; tells = flip-tells }) fabric.registers parts.registers

  louts-kind : IsOfKind 5 (flat_map (lout_drives fabric.lut_inputs) fabric.lcs)
  louts-kind =
      each-kind CellsDiffer (λ lc. driver.LutOut lc.x lc.y lc.i) (λ lc. Rule.table_entry (table_of fabric.lut_inputs lc)) (λ lc. lc.lout)
      5 (λ lc. refl) (λ a b other same. other (cc) (cc) (cc)) fabric.lcs parts.lcs

  carries-kind : IsOfKind 6 (flat_map carry_drives (filter (λ lc. lc.carry) fabric.lcs))
  carries-kind =
      each-kind CellsDiffer (λ lc. driver.Carry lc.x lc.y lc.i) (λ lc. Rule.majority_of (get_or lc.ins 1 None) (get_or lc.ins 2 None) lc.cin) (λ lc. lc.cout)
      6 (λ lc. refl) (λ a b other same. other (cc) (cc) (cc)) (filter (λ lc. lc.carry) fabric.lcs) (apart-filter CellsDiffer (λ lc. lc.carry) fabric.lcs parts.lcs)

  sets-kind : IsOfKind 7 (flat_map set_drives fabric.sets)
  sets-kind =
      each-kind SetsDiffer (λ set. driver.CarrySet set.x set.y) (λ set. Rule.constant true) (λ set. Some set.net)
      7 (λ set. refl) (λ a b other same. other (cc) (cc)) fabric.sets parts.sets

  globals-kind : IsOfKind 9 (flat_map (global_drives fabric.pins fabric.plls) fabric.globals)
  globals-kind =
      each-kind GlobalsDiffer (λ global. driver.Global global.g global.net) (λ global. global_rule fabric.pins fabric.plls global.from) (λ global. Some global.net)
      9 (λ global. refl) (λ a b other same. other (cc) (cc)) fabric.globals parts.globals

  buffers-kind : IsOfKind 10 (flat_map buffer_drives fabric.buffers)
  buffers-kind =
      each-kind BuffersDiffer (λ buffer. driver.Link buffer.line) (λ buffer. Rule.copied buffer.src) (λ buffer. Some buffer.dst)
      10 (λ buffer. refl) (λ a b other same. other (cc)) fabric.buffers parts.buffers

  input_registers-kind : IsOfKind 11 (flat_map input_drives (numbered fabric.registers))
  input_registers-kind = registers-kind 11 input_driver (record { kind = input-kind; tells = input-tells }) fabric.registers parts.registers

  second_registers-kind : IsOfKind 12 (flat_map second_drives (numbered fabric.registers))
  second_registers-kind = registers-kind 12 second_driver (record { kind = second-kind; tells = second-tells }) fabric.registers parts.registers

  plls-kind : IsOfKind 15 (flat_map (pll_drives fabric.pins fabric.plls) fabric.plls)
  plls-kind =
      each-kind PllsDiffer (λ port. driver.PllOut port.x port.y port.output) (λ port. Rule.pin_bit (pll_place fabric.pins fabric.plls port.x port.y port.output)) (λ port. port.net)
      15 (λ port. refl) (λ a b other same. other (cc) (cc) (cc)) fabric.plls parts.plls

  drivers-apart : AreApart DriversDiffer (drives_of fabric)
  unfolding drives_of
  drivers-apart =
      (then-kinds 1 _ _ inputs-kind (then-kinds 2 _ _ backs-kind (then-kinds 3 _ _ luts-kind (then-kinds 4 _ _ flips-kind (then-kinds 5 _ _ louts-kind
      (then-kinds 6 _ _ carries-kind (then-kinds 7 _ _ sets-kind (then-kinds 8 _ _ (rams-kind fabric.rams parts.rams) (then-kinds 9 _ _ globals-kind
      (then-kinds 10 _ _ buffers-kind (then-kinds 11 _ _ input_registers-kind (then-kinds 12 _ _ second_registers-kind (then-kinds 13 _ _ data-kind
      (then-kinds 14 _ _ pads-kind (last-kind 15 _ plls-kind))))))))))))))).apart

-- the first two drivers of a class of joined nets differ
pub first-differ : (options : FabricOptions) (db : Database) (image : Configuration) → IsFit db → (class : ℕ) (one two : Drive) (rest : List Drive)
    → drivers_of (fabric_with options db image) class ≡ one ∷ two ∷ rest → one.driver ≢ two.driver
unfolding drivers_of
first-differ options db image fit class one two rest is =
    let fabric = fabric_with options db image in
    let apart : AreApart DriversDiffer (one ∷ two ∷ rest) = subst (AreApart DriversDiffer) is
    (apart-filter DriversDiffer (is_driver_of fabric class) (drives_of fabric) (drivers-apart fabric (parts-apart db image options fit))) in
    All-head (DriversDiffer one) two rest apart.0
