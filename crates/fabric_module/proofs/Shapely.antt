-- What a database and an image configure has names that are names, and tables and start words of 16 bits.
use Rattle.std.proofs.Common.{◌≡◌, ℕ, zero, suc, ◌-◌, ◌^◌, ◌<◌, Bool, true, false, List, [], ◌∷◌, ◌++◌, length, map, get_or, refl, subst, arith}
use Rattle.std.specs.Prelude.{All, Option, Some, None, not, ◌&&◌, filter, flat_map, if◌then◌else◌}
use Rattle.std.proofs.lemmas.List.{length-map}
use Rattle.std.proofs.lemmas.List.Elements.{All-nil, All-head, All-tail, All-append, All-map, All-weaker, All-filter}
use Rattle.index_search.proofs.Gathered.{All-gathered_below}
use Rattle.plane_map.specs.declared.tile.TileKind.TheVariants.{Logic, RamB}
use Rattle.ice_image.specs.Configuration.{Configuration}
use Rattle.bit_plane.specs.BitList.{word_of}
use Rattle.bit_plane.proofs.Words.{word_of-lt}
use Rattle.bit_plane.proofs.Made.{length-row_from}
use Rattle.chipdb_reader.specs.Database.{Database}
use Rattle.vlog_module.specs.declared.atoms.Atom.{Atom}
use Rattle.vlog_module.specs.declared.atoms.Atom.TheVariants.{Bit, Whole, Part}
use Rattle.vlog_module.specs.Names.{IsName}
use Rattle.vlog_module.specs.WellFormed.{IsRight}
use Rattle.fabric_model.specs.declared.cell.LogicCell.{LogicCell}
use Rattle.fabric_model.specs.declared.lut_inputs.LutInputs.{LutInputs}
use Rattle.fabric_model.specs.declared.options.FabricOptions.{FabricOptions}
use Rattle.fabric_model.specs.declared.register.LutTable.{LutTable}
use Rattle.fabric_model.specs.declared.register.Register.{Register}
use Rattle.fabric_model.specs.declared.signal.Signal.{Signal}
use Rattle.fabric_model.specs.declared.register.PinRegister.{PinRegister}
use Rattle.fabric_model.specs.Registers.{table_of, register_of, registers_of, flips_among, registers_in, pin_register, pin_registers_of}
use Rattle.fabric_model.specs.declared.pin.PadData.{PadData}
use Rattle.fabric_model.specs.declared.pin.PadData.TheVariants as sends
use Rattle.fabric_model.specs.PinTypes.{has_table, takes_pad}
use Rattle.fabric_model.specs.InputPorts.{input_place}
use Rattle.fabric_model.specs.declared.input_port.InputPort.TheVariants.{Pad as PadPort}
use Rattle.fabric_model.specs.declared.ram.RamCell.{RamCell}
use Rattle.fabric_model.specs.declared.pin.Pin.{Pin}
use Rattle.fabric_model.specs.declared.pin.GlobalFrom.{GlobalFrom}
use Rattle.fabric_model.specs.declared.pin.GlobalFrom.TheVariants.{Pad, Pll, Fabout}
use Rattle.fabric_model.specs.declared.pll.PllSource.{PllSource}
use Rattle.fabric_model.specs.declared.driver.Driver.{Driver}
use Rattle.fabric_model.specs.Cells.{cell_bit, entry_bits, cell_bits, cell_with, used_cell, cells_at, cells_of}
use Rattle.fabric_model.specs.Rams.{first_data_bit, is_ram_used, ram_at, rams_of, start_word, start_words}
use Rattle.fabric_model.specs.Pins.{drives, has_outside, pins_of}
use Rattle.fabric_model.specs.Fabric.{Fabric, numbered, flip_count, fabric_with}
use Rattle.fabric_model.specs.Drivers.{Rule, Drive, drives_if, pad_of, pin_drives, is_read_back, back_drives, lut_drives, drives_by, flip_driver, flip_drives, lout_drives, carry_drives, set_drives, read_data_rule, ram_drive, ram_drives, global_rule, global_drives, buffer_drives, input_driver, input_drives, second_driver, second_drives, data_by_table, in_0_if_in_2, in_1_if_in_2, data_table, data_drives, pad_table, pad_drives, pll_drives, drives_of, is_driver_of, drivers_of}
use Rattle.fabric_model.specs.Drivers.Rule.{pin_bit, constant, input, table_entry, majority_of, register_bit, read_bit, copied}
use Rattle.fabric_model.proofs.Within.{All-flat_map, All-item_if, All-if, All-single, All-over_tiles}
use Rattle.fabric_model.proofs.Apart.{All-every}
use Rattle.fabric_module.specs.Names.{register_name, read_name, memory_name}
use Rattle.fabric_module.specs.Rights.{atom_or_0, signal_atom, setting_wire, register_right, right_alone, right_of, right_by, class_right}
use Rattle.fabric_module.specs.Written.{pin_ports}
use Rattle.fabric_module.proofs.Ports.{port_label}
use Rattle.chipdb_reader.specs.Fit.{IsFit}
use Rattle.fabric_model.specs.InputPorts.{pll_input}
use Rattle.fabric_model.specs.PllPorts.{pll_ports}
use Rattle.fabric_module.specs.Written.{input_port}
use Rattle.fabric_module.proofs.Plls.{plls-named}
use Rattle.fabric_module.proofs.Configured.{PinSmall, CellSmall, RamSmall, each-name, pins-small, cell-at, ram-placed}
use Rattle.fabric_module.proofs.Named.{pad-named, enable-named, outside-named, register-named, read-named, memory-named}
use Rattle.fabric_module.proofs.Declared.{AreNamed}
use Rattle.fabric_module.proofs.Whole.{IsShapely}

-- ---- right sides

module _ (fabric : Fabric) (tables : All (λ lc. lc.lut < 65536) fabric.lcs) where
  -- the right side of a driver is as it has to be
  IsDriveRight : Drive → Type 0
  IsDriveRight drive = IsRight (right_of fabric drive.rule)

  alone-right : (atom : Atom) → IsRight (right_alone atom)
  alone-right (Bit bit) = tt
  alone-right (Whole name) = tt
  alone-right (Part name k) = tt

  if-right : (by : Driver) (rule : Rule) (net : Option ℕ) → IsRight (right_of fabric rule) → All IsDriveRight (drives_if by rule net)
  unfolding IsDriveRight
  if-right by rule None is = All-nil (λ (drive : Drive). IsRight (right_of fabric drive.rule))
  if-right by rule (Some net) is = All-single (λ (drive : Drive). IsRight (right_of fabric drive.rule)) (record { driver = by; net = net; rule = rule }) is

  pin-right : (place : ℕ) → IsRight (right_of fabric (pin_bit place))
  unfolding right_of
  pin-right place = tt

  constant-right : (bit : Bool) → IsRight (right_of fabric (constant bit))
  unfolding right_of
  constant-right bit = tt

  input-right : (source : Signal) → IsRight (right_of fabric (input source))
  unfolding right_of
  input-right source = alone-right (signal_atom fabric source)

  table-right : (table : LutTable) → table.word < 65536 → IsRight (right_of fabric (table_entry table))
  unfolding right_of
  table-right table small = (small, refl)

  majority-right : (a b c : Option ℕ) → IsRight (right_of fabric (majority_of a b c))
  unfolding right_of
  majority-right a b c = tt

  by_wire-right : (register : Register) (wire : Option (List ℕ)) → IsRight (register_right register wire)
  by_wire-right register (Some wire) = tt
  by_wire-right register None = tt

  register-right : (place : ℕ) (register : Register) → IsRight (right_of fabric (register_bit place register))
  unfolding right_of
  register-right place register = by_wire-right register (setting_wire fabric register)

  read-right : (ram bit : ℕ) → IsRight (right_of fabric (read_bit ram bit))
  unfolding right_of
  read-right ram bit = tt

  by-drives : (place : ℕ × Register) (by : Option Driver) → All IsDriveRight (drives_by place by)
  by-drives place None = All-nil IsDriveRight
  by-drives place (Some by) = if-right by (register_bit place.0 place.1) place.1.out (register-right place.0 place.1)

  either-right : (passes : Bool) (one other : Rule) → IsRight (right_of fabric one) → IsRight (right_of fabric other) → IsRight (right_of fabric (if passes then one else other))
  either-right true one other of_one of_other = of_one
  either-right false one other of_one of_other = of_other

  data-right : (ram mode bit : ℕ) → IsRight (right_of fabric (read_data_rule ram mode bit))
  data-right ram mode bit =
      either-right _ (read_bit ram (bit - first_data_bit mode)) (constant false) (read-right ram (bit - first_data_bit mode)) (constant-right false)

  copied-right : (net : ℕ) → IsRight (right_of fabric (copied net))
  unfolding right_of
  copied-right net = alone-right (atom_or_0 fabric (Some net))

  global-right : (pins : List Pin) (plls : List PllSource) (from : GlobalFrom) → IsRight (right_of fabric (global_rule pins plls from))
  global-right pins plls (Pad x y n) = pin-right _
  global-right pins plls (Pll x y output) = pin-right _
  global-right pins plls (Fabout net) = copied-right net

  any-right : {X : Type 0} (given : X → List Drive) → ((x : X) → All IsDriveRight (given x)) → (parts : List X) → All IsDriveRight (flat_map given parts)
  any-right given each [] = All-nil IsDriveRight
  any-right given each (x ∷ parts) = All-append IsDriveRight (given x) (flat_map given parts) (each x) (any-right given each parts)

  cells-right : (given : LogicCell → List Drive) → ((lc : LogicCell) → lc.lut < 65536 → All IsDriveRight (given lc)) → (lcs : List LogicCell) → All (λ lc. lc.lut < 65536) lcs → All IsDriveRight (flat_map given lcs)
  cells-right given each lcs all = All-flat_map IsDriveRight given lcs (All-weaker (λ lc. lc.lut < 65536) (λ lc. All IsDriveRight (given lc)) each lcs all)

  then-right : (first second : List Drive) → All IsDriveRight first → All IsDriveRight second → All IsDriveRight (first ++ second)
  then-right first second = All-append IsDriveRight first second

  pin_drives-right : (pin : Pin) → All IsDriveRight (pin_drives fabric.pins pin)
  pin_drives-right pin =
      let place = input_place fabric.pins (PadPort pin.x pin.y pin.n) in
      All-if IsDriveRight (not (drives pin) && takes_pad pin.takes) _ (if-right _ (pin_bit place) pin.din_0 (pin-right place))

  either-small : (passes : Bool) (one other : ℕ) → one < 65536 → other < 65536 → (if passes then one else other) < 65536
  either-small true one other of_one of_other = of_one
  either-small false one other of_one of_other = of_other

  by_table-small : (pin : Pin) (sent : PadData) → (data_by_table (flip_count fabric) fabric.pins pin sent).word < 65536
  by_table-small pin sends.Plain = omega arith
  by_table-small pin sends.Registered = omega arith
  by_table-small pin sends.Inverted = omega arith
  by_table-small pin sends.Double = either-small pin.neg in_0_if_in_2 in_1_if_in_2 (omega arith) (omega arith)

  data_drives-right : (pin : Pin) → All IsDriveRight (data_drives fabric pin)
  data_drives-right pin =
      All-if IsDriveRight (drives pin && has_table pin.sends) _ (if-right _ (table_entry (data_table fabric pin)) pin.data_net (table-right (data_table fabric pin) (by_table-small pin pin.sends)))

  pad_drives-right : (pin : Pin) → All IsDriveRight (pad_drives fabric pin)
  pad_drives-right pin = All-if IsDriveRight (has_outside pin) _ (if-right _ (table_entry (pad_table fabric pin)) pin.pad_net (table-right (pad_table fabric pin) (omega arith)))

  all-right : All IsDriveRight (drives_of fabric)
  unfolding drives_of
  all-right =
      then-right _ _ (any-right (pin_drives fabric.pins) pin_drives-right fabric.pins)
      (then-right _ _ (any-right (back_drives fabric) (λ pin. All-if IsDriveRight (is_read_back pin) _ (if-right _ (input (pad_of fabric pin)) pin.din_0 (input-right (pad_of fabric pin)))) fabric.pins)
      (then-right _ _ (cells-right (lut_drives fabric.lut_inputs) (λ lc small. if-right _ (table_entry (table_of fabric.lut_inputs lc)) lc.out (table-right (table_of fabric.lut_inputs lc) small)) (filter (λ lc. not lc.flip) fabric.lcs) (All-filter (λ lc. not lc.flip) (λ lc. lc.lut < 65536) fabric.lcs tables))
      (then-right _ _ (any-right flip_drives (λ place. by-drives place (flip_driver place.1 place.1.kind)) (numbered fabric.registers))
      (then-right _ _ (cells-right (lout_drives fabric.lut_inputs) (λ lc small. if-right _ (table_entry (table_of fabric.lut_inputs lc)) lc.lout (table-right (table_of fabric.lut_inputs lc) small)) fabric.lcs tables)
      (then-right _ _ (any-right carry_drives (λ lc. if-right _ (majority_of (get_or lc.ins 1 None) (get_or lc.ins 2 None) lc.cin) lc.cout (majority-right (get_or lc.ins 1 None) (get_or lc.ins 2 None) lc.cin)) (filter (λ lc. lc.carry) fabric.lcs))
      (then-right _ _ (any-right set_drives (λ set. if-right _ (constant true) (Some set.net) (constant-right true)) fabric.sets)
      (then-right _ _ (any-right ram_drives (λ place. any-right (ram_drive place) (λ port. if-right _ (read_data_rule place.0 place.1.read port.0) port.1 (data-right place.0 place.1.read port.0)) (numbered place.1.rdata)) (numbered fabric.rams))
      (then-right _ _ (any-right (global_drives fabric.pins fabric.plls) (λ global. if-right _ (global_rule fabric.pins fabric.plls global.from) (Some global.net) (global-right fabric.pins fabric.plls global.from)) fabric.globals)
      (then-right _ _ (any-right buffer_drives (λ buffer. if-right _ (copied buffer.src) (Some buffer.dst) (copied-right buffer.src)) fabric.buffers)
      (then-right _ _ (any-right input_drives (λ place. by-drives place (input_driver place.1 place.1.kind)) (numbered fabric.registers))
      (then-right _ _ (any-right second_drives (λ place. by-drives place (second_driver place.1 place.1.kind)) (numbered fabric.registers))
      (then-right _ _ (any-right (data_drives fabric) data_drives-right fabric.pins)
      (then-right _ _ (any-right (pad_drives fabric) pad_drives-right fabric.pins)
      (any-right (pll_drives fabric.pins fabric.plls) (λ port. if-right _ (pin_bit _) port.net (pin-right _)) fabric.plls))))))))))))))

  by-right : (drives : List Drive) → All IsDriveRight drives → IsRight (right_by fabric drives)
  unfolding IsDriveRight
  by-right [] all = tt
  by-right (drive ∷ drives) all = All-head (λ (d : Drive). IsRight (right_of fabric d.rule)) drive drives all

  pub each-right : (class : ℕ) → IsRight (class_right fabric class)
  unfolding class_right drivers_of
  each-right class = by-right (filter (is_driver_of fabric class) (drives_of fabric)) (All-filter (is_driver_of fabric class) IsDriveRight (drives_of fabric) all-right)

-- ---- start words

word-fits : (bits : List Bool) → length bits ≡ 16 → word_of bits < 65536
word-fits bits sixteen = subst (λ n. word_of bits < 2 ^ n) sixteen (word_of-lt bits)

word-at : (words : List (List Bool)) (k : ℕ) → All (λ word. length word ≡ 16) words → word_of (get_or words k []) < 65536
word-at [] k all = omega (arith, word_of-lt [])
word-at (word ∷ words) zero all = word-fits word (All-head (λ w. length w ≡ 16) word words all)
word-at (word ∷ words) (suc k) all = word-at words k (All-tail (λ w. length w ≡ 16) word words all)

words-at : (start : List (List (List Bool))) (place k : ℕ) → All (λ words. All (λ word. length word ≡ 16) words) start → word_of (get_or (get_or start place []) k []) < 65536
words-at [] place k all = word-at [] k (All-nil (λ word. length word ≡ 16))
words-at (words ∷ start) zero k all = word-at words k (All-head (λ ws. All (λ word. length word ≡ 16) ws) words start all)
words-at (words ∷ start) (suc place) k all = words-at start place k (All-tail (λ ws. All (λ word. length word ≡ 16) ws) words start all)

module _ (db : Database) (image : Configuration) where
  -- ---- small numbers

  cells-small : All CellSmall (cells_of db image)
  unfolding cells_of cells_at
  cells-small =
      All-over_tiles CellSmall image.layout.device Logic (cells_at db image)
      (λ x y left low. All-gathered_below CellSmall 8 (used_cell db image x y)
      (λ i few. All-item_if CellSmall _ (cell_with db image x y i (cell_bits db image x y i)) (cell-at db image x y i (cell_bits db image x y i) left low few).0))

  rams-small : All RamSmall (rams_of db image)
  unfolding rams_of
  rams-small =
      All-over_tiles RamSmall image.layout.device RamB (λ x y. if is_ram_used db image x y then ram_at db image x y ∷ [] else [])
      (λ x y left low. All-if RamSmall (is_ram_used db image x y) (ram_at db image x y ∷ []) (All-single RamSmall (ram_at db image x y) (ram-placed db image x y left low).0))

  ports-named : (all : Bool) → All (λ port. IsName (port_label port)) (flat_map pin_ports (pins_of all db image))
  unfolding PinSmall
  ports-named all =
      All-flat_map (λ port. IsName (port_label port)) pin_ports (pins_of all db image)
      (All-weaker PinSmall (λ pin. All (λ port. IsName (port_label port)) (pin_ports pin))
      (λ pin small. each-name IsName pin (pad-named pin.x pin.y pin.n small.first small.second small.third) (enable-named pin small.first small.second small.third)
      (outside-named pin.x pin.y pin.n small.first small.second small.third))
      (pins_of all db image) (pins-small db image all))

  register-name : (reads : LutInputs) (lc : LogicCell) → CellSmall lc → IsName (register_name (register_of reads lc))
  unfolding CellSmall register_of
  register-name reads lc small = register-named (register_of reads lc) small.first small.second small.third

  read-name : (ram : RamCell) → RamSmall ram → IsName (read_name ram)
  unfolding RamSmall
  read-name ram small = read-named ram small.first small.second

  memory-name : (ram : RamCell) → RamSmall ram → IsName (memory_name ram)
  unfolding RamSmall
  memory-name ram small = memory-named ram small.first small.second

  -- ---- tables

  table-small : (x y i : ℕ) (bits : List Bool) → (cell_with db image x y i bits).lut < 65536
  unfolding cell_with entry_bits
  table-small x y i bits = word-fits (map (cell_bit bits) entry_bits) (length-map entry_bits (cell_bit bits))

  tables-small : All (λ lc. lc.lut < 65536) (cells_of db image)
  unfolding cells_of cells_at
  tables-small =
      All-over_tiles (λ lc. lc.lut < 65536) image.layout.device Logic (cells_at db image)
      (λ x y left low. All-gathered_below (λ lc. lc.lut < 65536) 8 (used_cell db image x y)
      (λ i few. All-item_if (λ lc. lc.lut < 65536) _ (cell_with db image x y i (cell_bits db image x y i)) (table-small x y i (cell_bits db image x y i))))

  register-small : (reads : LutInputs) (lc : LogicCell) → lc.lut < 65536 → (register_of reads lc).table.word < 65536
  unfolding register_of
  register-small reads lc small = small

  flips-small : (reads : LutInputs) → All (λ register. register.table.word < 65536) (registers_of reads (cells_of db image))
  unfolding registers_of
  flips-small reads =
      All-map (λ register. register.table.word < 65536) (register_of reads) (filter (λ lc. lc.flip) (cells_of db image))
      (All-filter (λ lc. lc.flip) (λ lc. (register_of reads lc).table.word < 65536) (cells_of db image)
      (All-weaker (λ lc. lc.lut < 65536) (λ lc. (register_of reads lc).table.word < 65536) (register-small reads) (cells_of db image) tables-small))

  flips-named : (reads : LutInputs) → All (λ register. IsName (register_name register)) (registers_of reads (cells_of db image))
  unfolding registers_of
  flips-named reads =
      All-map (λ register. IsName (register_name register)) (register_of reads) (filter (λ lc. lc.flip) (cells_of db image))
      (All-filter (λ lc. lc.flip) (λ lc. IsName (register_name (register_of reads lc))) (cells_of db image)
      (All-weaker CellSmall (λ lc. IsName (register_name (register_of reads lc))) (register-name reads) (cells_of db image) cells-small))

  -- registers of pins
  module _ (flips : ℕ) (pins : List Pin) where
    pin_register-small : (pin : Pin) (register : PinRegister) → (pin_register flips pins pin register).table.word < 65536
    unfolding pin_register
    pin_register-small pin register = omega arith

    pin_register-name : (pin : Pin) (register : PinRegister) → PinSmall pin → IsName (register_name (pin_register flips pins pin register))
    unfolding PinSmall pin_register
    pin_register-name pin register small = register-named (pin_register flips pins pin register) small.first small.second small.third

    pin_registers-small : All (λ register. register.table.word < 65536) (pin_registers_of flips pins)
    unfolding pin_registers_of
    pin_registers-small =
        let IsSmallTable = λ (register : Register). register.table.word < 65536 in
        All-flat_map IsSmallTable (λ pin. map (pin_register flips pins pin) (registers_in pin)) pins
        (All-every (λ pin. All IsSmallTable (map (pin_register flips pins pin) (registers_in pin)))
        (λ pin. All-map IsSmallTable (pin_register flips pins pin) (registers_in pin)
        (All-every (λ register. IsSmallTable (pin_register flips pins pin register)) (pin_register-small pin) (registers_in pin))) pins)

    pin_registers-named : All PinSmall pins → All (λ register. IsName (register_name register)) (pin_registers_of flips pins)
    unfolding pin_registers_of
    pin_registers-named small =
        let IsNamed = λ (register : Register). IsName (register_name register) in
        All-flat_map IsNamed (λ pin. map (pin_register flips pins pin) (registers_in pin)) pins
        (All-weaker PinSmall (λ pin. All IsNamed (map (pin_register flips pins pin) (registers_in pin)))
        (λ pin of_pin. All-map IsNamed (pin_register flips pins pin) (registers_in pin)
        (All-every (λ register. IsNamed (pin_register flips pins pin register)) (λ register. pin_register-name pin register of_pin) (registers_in pin))) pins small)

  -- ---- start words

  words-sixteen : (x y : ℕ) → All (λ word. length word ≡ 16) (start_words image x y)
  unfolding start_words
  words-sixteen x y =
      All-gathered_below (λ word. length word ≡ 16) 256 (λ k. start_word image x y k ∷ [])
      (λ k few. All-single (λ word. length word ≡ 16) (start_word image x y k) (length-row_from 16 _))

  starts-sixteen : (options : FabricOptions) → All (λ words. All (λ word. length word ≡ 16) words) (fabric_with options db image).start
  unfolding fabric_with
  starts-sixteen options =
      All-over_tiles (λ words. All (λ word. length word ≡ 16) words) image.layout.device RamB (λ x y. if is_ram_used db image x y then start_words image x y ∷ [] else [])
      (λ x y left low. All-if (λ words. All (λ word. length word ≡ 16) words) (is_ram_used db image x y) (start_words image x y ∷ [])
      (All-single (λ words. All (λ word. length word ≡ 16) words) (start_words image x y) (words-sixteen x y)))

  fabric-named : (options : FabricOptions) → IsFit db → AreNamed (fabric_with options db image)
  unfolding fabric_with
  fabric-named options fit = record {
    ports = All-append (λ port. IsName (port_label port)) (flat_map pin_ports (pins_of options.all_pins db image)) (map input_port (map pll_input (pll_ports options.all_pins db image)))
        (ports-named options.all_pins) (plls-named db image options.all_pins fit);
    registers = All-append (λ register. IsName (register_name register)) (registers_of options.lut_inputs (cells_of db image))
        (pin_registers_of (flips_among (cells_of db image)) (pins_of options.all_pins db image)) (flips-named options.lut_inputs)
        (pin_registers-named (flips_among (cells_of db image)) (pins_of options.all_pins db image) (pins-small db image options.all_pins));
    reads = All-weaker RamSmall (λ ram. IsName (read_name ram)) read-name (rams_of db image) rams-small;
    memories = All-weaker RamSmall (λ ram. IsName (memory_name ram)) memory-name (rams_of db image) rams-small;
  }

  fabric-tables : (options : FabricOptions) → All (λ lc. lc.lut < 65536) (fabric_with options db image).lcs
  unfolding fabric_with
  fabric-tables options = tables-small

  fabric-registers : (options : FabricOptions) → All (λ register. register.table.word < 65536) (fabric_with options db image).registers
  unfolding fabric_with
  fabric-registers options =
      All-append (λ register. register.table.word < 65536) (registers_of options.lut_inputs (cells_of db image))
      (pin_registers_of (flips_among (cells_of db image)) (pins_of options.all_pins db image)) (flips-small options.lut_inputs)
      (pin_registers-small (flips_among (cells_of db image)) (pins_of options.all_pins db image))

  pub fabric-shapely : (options : FabricOptions) → IsFit db → IsShapely (fabric_with options db image)
  fabric-shapely options fit = record {
    named = fabric-named options fit;
    tables = fabric-registers options;
    rights = each-right (fabric_with options db image) (fabric-tables options);
    words = λ place k. words-at (fabric_with options db image).start place k (starts-sixteen options);
  }
