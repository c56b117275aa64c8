-- The definitions at small databases and images, worked out by hand.
use Rattle.std.proofs.Common.{◌≡◌, [], ◌∷◌, ◌++◌, List, ℕ, ◌+◌, refl, true, false, Bool}
use Rattle.std.specs.Prelude.{codes, Some, None, Option, fold, map, not, ◌||◌, ◌==◌}
use Rattle.std.specs.Fmt.{digits}
use Rattle.plane_map.specs.declared.device.DeviceName.TheVariants.{Hx1k, Hx8k}
use Rattle.plane_map.specs.declared.tile.TileKind.TheVariants.{Io, Logic, RamB, RamT}
use Rattle.plane_map.specs.declared.tile.TileBit.{TileBit}
use Rattle.plane_map.specs.declared.tile.RowCol.{RowCol}
use Rattle.ice_image.specs.Configuration.{Configuration, with_place_bit, blank_image}
use Rattle.chipdb_lines.specs.Items.{FunctionLine, NameLine, PllLine}
use Rattle.chipdb_reader.specs.Database.{Database, Link}
use Rattle.fabric_model.specs.declared.driver.Driver.{Driver}
use Rattle.fabric_model.specs.declared.driver.Driver.TheVariants as driver
use Rattle.fabric_model.specs.declared.driver.ClockUser.TheVariants.{Cell}
use Rattle.fabric_model.specs.declared.options.FabricOptions.{FabricOptions}
use Rattle.fabric_model.specs.declared.pin.Pin.{Pin}
use Rattle.fabric_model.specs.declared.pin.PadDrive.TheVariants as drive
use Rattle.fabric_model.specs.declared.pin.PadData.{PadData}
use Rattle.fabric_model.specs.declared.pin.PadData.TheVariants as sends
use Rattle.fabric_model.specs.declared.pin.PadInput.TheVariants as takes
use Rattle.fabric_model.specs.declared.register.PinRegister.TheVariants as kind
use Rattle.fabric_model.specs.declared.register.RegisterKind.{RegisterKind}
use Rattle.fabric_model.specs.declared.register.RegisterKind.TheVariants.{OfPin}
use Rattle.fabric_model.specs.declared.signal.Signal.TheVariants as signal
use Rattle.fabric_model.specs.declared.pin.GlobalFrom.TheVariants.{Pad, Fabout}
use Rattle.fabric_model.specs.declared.cell.LogicCell.{LogicCell}
use Rattle.fabric_model.specs.declared.lut_inputs.LutInputs.TheVariants as read
use Rattle.fabric_model.specs.declared.register.Register.{Register}
use Rattle.fabric_model.specs.declared.signal.Signal.{Signal}
use Rattle.fabric_model.specs.declared.ram.RamCell.{RamCell}
use Rattle.fabric_model.specs.Tiles.{each_below}
use Rattle.fabric_model.specs.Values.{bit_in}
use Rattle.fabric_model.specs.Faults.{Fault as fault}
use Rattle.bit_plane.specs.BitList.{word_bits, word_of, bytes_of}
use Rattle.bit_plane.specs.Rows.{blank, flat, rows_of, row_from, rows_from}
use Rattle.plane_map.specs.Layout.{kind_of, place_of, word_place_of, standard_layout, start_in, standard_widths, standard_side_columns, standard_pad_columns, standard_pad_rows, standard_banks}
use Rattle.index_search.specs.Places.{any_below, least_below, last_below, first_below, gathered_below}
use Rattle.chipdb_reader.specs.Lookups.{net_at, names_of_net, function_place, extra_place, input_of, pad_of}
use Rattle.fabric_model.specs.On.{are_set, is_link_on, is_function_on, is_any_on, is_extra_on}
use Rattle.fabric_model.specs.Tiles.{over_grid}
use Rattle.fabric_model.specs.Nets.{is_read}
use Rattle.fabric_model.specs.Cells.{cell_places, cell_bits, entry_bits, cell_with, cells_at, cells_of, sets_of}
use Rattle.fabric_model.specs.Rams.{is_ram_used, ram_at, rams_of, start_words}
use Rattle.fabric_model.specs.PinTypes.{pintype_of}
use Rattle.fabric_model.specs.Plls.{pll_type, output_pin, output_net, sources_in, pll_sources, has_unnamed, is_pll_refused, unnamed_tiles, refused_tiles, pll_tiles, pll_tile}
use Rattle.fabric_model.specs.PllPorts.{pll_ports}
use Rattle.fabric_model.specs.Pins.{pin_with, pins_of, pin_places, global_nets, globals_of, is_refused_with}
use Rattle.fabric_model.specs.Joins.{is_joined, class_of}
use Rattle.fabric_model.specs.Fabric.{numbered_from, joins_of, buffers_of, fabric_with, fabric_of, inputs_of, no_options}
use Rattle.fabric_model.specs.declared.input_port.InputPort.TheVariants as port
use Rattle.fabric_model.specs.declared.pll.PllOutput.TheVariants as output
use Rattle.fabric_model.specs.Luts.{uses_input}
use Rattle.fabric_model.specs.Registers.{table_of, register_of, registers_of, pin_register, pin_registers_of}
use Rattle.fabric_model.specs.Signals.{net_or_0, net_or_1}
use Rattle.fabric_model.specs.Drivers.{drives_of, drivers_of, is_driven, nets_read, read_data_rule}
use Rattle.fabric_model.specs.Outputs.{outputs_of}
use Rattle.fabric_model.specs.Drivers.Rule.{table_entry, majority_of, register_bit, read_bit, constant}
use Rattle.fabric_model.specs.Values.{State, lut_value, settled_bit, value_of}
use Rattle.fabric_model.specs.Steps.{event_edges, next_bit, written, shown, next_words, next_register, state_after, settled_state, output_values}
use Rattle.graph_order.specs.Wiring.{has, leads_below, is_on_cycle}
use Rattle.fabric_model.specs.Wiring.{wiring_of, clocks_of_value, clocked_wiring}
use Rattle.fabric_model.specs.ClockLuts.{pass_of, is_at_open}
use Rattle.fabric_model.specs.ClockLuts.LutPass.{holds, follows, mixes}
use Rattle.fabric_model.specs.Clocks.ClockEnd.{at_pin, still}
use Rattle.fabric_model.specs.Clocks.{turned_end, turn_at, end_within, clock_end, clock_class, users_of}
use Rattle.fabric_model.specs.Faults.{device_faults, pin_faults, cascade_faults, driver_faults, loop_faults, clock_faults, pins_fault, rams_fault, fabric_fault, design_fault}

abbrev rc : ℕ → ℕ → RowCol
rc row col = record { row = row; col = col }

abbrev at : ℕ → ℕ → ℕ → ℕ → TileBit
at x y row col = record { x = x; y = y; row = row; col = col }

abbrev named : ℕ → ℕ → ℕ → List ℕ → NameLine
named net x y name = record { net = net; x = x; y = y; name = name }

abbrev link : ℕ → ℕ → ℕ → ℕ → List RowCol → List Bool → Link
link x y dst src bits values = record { x = x; y = y; dst = dst; src = src; bits = bits; values = values }

-- ---- a database with one cell, pins and buffers

abbrev cell_function : FunctionLine
cell_function = record {
  kind = Logic;
  name = codes "LC_0";
  bits =
      rc 0 36 ∷ rc 0 37 ∷ rc 0 38 ∷ rc 0 39 ∷ rc 0 40 ∷ rc 0 41 ∷ rc 0 42 ∷ rc 0 43 ∷ rc 0 44 ∷ rc 0 45 ∷
      rc 1 36 ∷ rc 1 37 ∷ rc 1 38 ∷ rc 1 39 ∷ rc 1 40 ∷ rc 1 41 ∷ rc 1 42 ∷ rc 1 43 ∷ rc 1 44 ∷ rc 1 45 ∷ [];
}

abbrev pin_functions : List FunctionLine
pin_functions =
    record { kind = Io; name = codes "IOB_0.PINTYPE_0"; bits = rc 0 0 ∷ [] } ∷
    record { kind = Io; name = codes "IOB_0.PINTYPE_1"; bits = rc 1 0 ∷ [] } ∷
    record { kind = Io; name = codes "IOB_0.PINTYPE_2"; bits = rc 2 0 ∷ [] } ∷
    record { kind = Io; name = codes "IOB_0.PINTYPE_3"; bits = rc 3 0 ∷ [] } ∷
    record { kind = Io; name = codes "IOB_0.PINTYPE_4"; bits = rc 4 0 ∷ [] } ∷
    record { kind = Io; name = codes "IOB_0.PINTYPE_5"; bits = rc 5 0 ∷ [] } ∷
    []

abbrev names_a : List NameLine
names_a =
    named 0 0 1 (codes "io_0/D_IN_0") ∷ named 1 1 1 (codes "lutff_0/in_0") ∷
    named 2 1 1 (codes "lutff_0/out") ∷ named 3 0 2 (codes "io_0/D_OUT_0") ∷ []

abbrev buffers_a : List Link
buffers_a = link 1 1 1 0 (rc 2 0 ∷ []) (true ∷ []) ∷ link 0 2 3 2 (rc 6 0 ∷ []) (true ∷ []) ∷ []

unfoldable database_a : Database
database_a = record {
  chip = record { device = Hx1k; nets = 4 };
  names = names_a;
  buffers = buffers_a;
  routings = [];
  functions = cell_function ∷ pin_functions;
  extras = [];
  global_inputs = [];
  global_pins = [];
  plls = [];
}

-- ---- the same with a clock

abbrev buffers_b : List Link
buffers_b = buffers_a ++
    (link 1 1 1 2 (rc 3 0 ∷ []) (true ∷ []) ∷
    link 1 1 4 2 (rc 4 0 ∷ rc 5 0 ∷ []) (true ∷ false ∷ []) ∷
    link 1 1 4 0 (rc 4 0 ∷ rc 5 0 ∷ []) (false ∷ true ∷ []) ∷ [])

unfoldable database_b : Database
database_b = record database_a {
  chip = record { device = Hx1k; nets = 5 };
  names = names_a ++ (named 4 1 1 (codes "lutff_global/clk") ∷ []);
  buffers = buffers_b;
  functions = cell_function ∷ record { kind = Logic; name = codes "NegClk"; bits = rc 6 0 ∷ [] } ∷ pin_functions;
}

-- ---- and with a RAM, a PLL, a global and a routing

unfoldable database_c : Database
database_c = record database_b {
  chip = record { device = Hx1k; nets = 9 };
  names = names_a ++ (named 4 1 1 (codes "lutff_global/clk") ∷ named 4 3 2 (codes "ram/RCLK") ∷ named 5 3 1 (codes "ram/RDATA_3")
      ∷ named 6 5 5 (codes "glb_netwk_2") ∷ named 7 0 7 (codes "fabout") ∷ named 8 6 6 (codes "glb_netwk_2") ∷ named 7 0 1 (codes "io_0/D_IN_1") ∷ []);
  buffers = buffers_b ++ (link 3 1 0 5 (rc 0 0 ∷ []) (true ∷ []) ∷ []);
  routings = link 1 1 3 7 (rc 8 0 ∷ []) (true ∷ []) ∷ link 1 1 8 3 (rc 9 0 ∷ []) (true ∷ []) ∷ [];
  functions = cell_function ∷ record { kind = Logic; name = codes "NegClk"; bits = rc 6 0 ∷ [] }
      ∷ record { kind = RamT; name = codes "RamConfig.CBIT_0"; bits = rc 1 0 ∷ [] }
      ∷ record { kind = RamT; name = codes "RamConfig.CBIT_3"; bits = rc 2 0 ∷ [] }
      ∷ record { kind = RamB; name = codes "RamCascade.CBIT_4"; bits = rc 3 0 ∷ [] }
      ∷ record { kind = RamT; name = codes "NegClk"; bits = rc 4 0 ∷ [] }
      ∷ record { kind = Io; name = codes "PLL.PLLTYPE_0"; bits = rc 9 0 ∷ [] }
      ∷ record { kind = Io; name = codes "IoCtrl.LVDS"; bits = rc 10 0 ∷ [] }
      ∷ pin_functions;
  extras = record { name = codes "padin_glb_netwk.2"; at = record { bank = 0; px = 330; py = 143 } } ∷ [];
  global_inputs = record { x = 0; y = 7; global = 2 } ∷ [];
  global_pins = record { x = 0; y = 1; pad = 0; global = 2 } ∷ [];
  plls = [];
}

-- ---- the second, with a reset that comes from the register itself

unfoldable database_d : Database
database_d = record database_b {
  names = names_a ++ (named 2 1 1 (codes "lutff_global/s_r") ∷ named 4 1 1 (codes "lutff_global/clk") ∷ []);
}

-- ---- the first, with a pin that is the clock of another

unfoldable database_e : Database
database_e = record database_a {
  chip = record { device = Hx1k; nets = 5 };
  names = names_a ++ (named 4 0 1 (codes "io_global/inclk") ∷ named 4 0 3 (codes "io_0/D_IN_0") ∷ []);
}

-- ---- the second, with in_2 of the cell in place of in_0

unfoldable database_f : Database
database_f = record database_b {
  names = named 0 0 1 (codes "io_0/D_IN_0") ∷ named 1 1 1 (codes "lutff_0/in_2") ∷ named 2 1 1 (codes "lutff_0/out") ∷ named 3 0 2 (codes "io_0/D_OUT_0") ∷ [];
}

-- ---- the first, with a PLL

abbrev pll_part : List ℕ → ℕ → ℕ → List ℕ → PllLine
pll_part name x y word = record { name = name; x = x; y = y; word = word }

unfoldable database_h : Database
database_h = record database_a {
  functions = cell_function ∷ record { kind = Io; name = codes "PLL.PLLCONFIG_1"; bits = rc 9 0 ∷ [] }
      ∷ record { kind = Io; name = codes "PLL.PLLCONFIG_5"; bits = rc 8 0 ∷ [] } ∷ pin_functions;
  plls = record {
    x = 0;
    y = 1;
    lines =
        pll_part (codes "PLLTYPE_0") 0 2 (codes "PLLCONFIG_5") ∷ pll_part (codes "PLLTYPE_1") 0 2 (codes "PLLCONFIG_1")
        ∷ pll_part (codes "PLLOUT_A") 0 1 (codes "0") ∷ [];
  } ∷ [];
}

-- ---- images

abbrev with_set : Configuration → TileBit → Configuration
with_set image bit = record image { cram = with_place_bit image.cram (place_of (standard_layout Hx1k) bit) true }

-- an image with these bits
unfoldable image_with : List TileBit → Configuration
image_with bits = fold with_set (blank_image (standard_layout Hx1k)) bits

-- an input pin at 0 1, an output pin at 0 2 that is fed, and a LUT that inverts
abbrev pins_i : List TileBit
pins_i = at 0 1 0 0 ∷ at 0 2 0 0 ∷ at 0 2 3 0 ∷ at 0 2 4 0 ∷ at 0 2 6 0 ∷ []

abbrev lut_i : List TileBit
lut_i = at 1 1 0 37 ∷ at 1 1 0 39 ∷ at 1 1 0 40 ∷ at 1 1 0 42 ∷ at 1 1 1 36 ∷ at 1 1 1 38 ∷ at 1 1 1 41 ∷ at 1 1 1 43 ∷ []

abbrev both : List TileBit → Configuration
both more = image_with (pins_i ++ (lut_i ++ more))

-- ---- parts of no image

-- a cell with nets 0 to 3 as inputs, 5 as enable, 6 as reset, which sets, and 7 as carry in
abbrev cell_with_lut : ℕ → LogicCell
cell_with_lut lut = record {
  x = 1;
  y = 1;
  i = 0;
  lut = lut;
  carry = true;
  flip = true;
  «set» = true;
  is_async = false;
  neg = false;
  ins = Some 0 ∷ Some 1 ∷ Some 2 ∷ Some 3 ∷ [];
  out = None;
  lout = None;
  cout = None;
  cin = Some 7;
  clk = None;
  cen = Some 5;
  sr = Some 6;
}

-- its flip-flop, whose set or reset is asynchronous or synchronous
abbrev register_with : Bool → Register
register_with is_async = record (register_of read.All (cell_with_lut 0)) { is_async = is_async }

-- options with which LUTs read only the inputs that they use
abbrev used_inputs : FabricOptions
used_inputs = record { lut_inputs = read.Used; all_pins = false; register_clocks = false }

-- and with which pins of every kind are taken
abbrev all_pins : FabricOptions
all_pins = record { lut_inputs = read.All; all_pins = true; register_clocks = false }

-- an input pin whose input is read, and an output pin that is fed
abbrev read_pin : Pin
read_pin = record {
  x = 0;
  y = 1;
  n = 0;
  drive = drive.Never;
  sends = sends.Double;
  takes = takes.Plain;
  reads_0 = true;
  reads_1 = false;
  is_global = false;
  neg = false;
  inclk = None;
  outclk = None;
  cen = None;
  din_0 = Some 0;
  din_1 = None;
  dout_0 = None;
  dout_1 = None;
  enable = None;
  data_net = None;
  pad_net = None;
}

abbrev fed_pin : PadData → Pin
fed_pin sent = record read_pin { y = 2; drive = drive.Always; sends = sent; reads_0 = false; din_0 = None; dout_0 = Some 3 }

-- a state without registers
abbrev nothing_kept : State
nothing_kept = record { bits = []; reads = []; words = [] }

-- a RAM with nets 16 to 31 as data and 32 to 47 as mask
abbrev ram_with_nets : RamCell
ram_with_nets = record {
  x = 3;
  y = 1;
  read = 0;
  write = 0;
  wneg = false;
  rneg = false;
  rdata = [];
  wdata = each_below 16 (λ k. Some (16 + k));
  mask = each_below 16 (λ k. Some (32 + k));
  waddr = [];
  raddr = [];
  wclk = None;
  wclke = None;
  we = None;
  rclk = None;
  rclke = None;
  re = None;
}

-- ---- what they configure

-- an inverter between two pins
inverter : fabric_of database_a (both (at 1 1 2 0 ∷ [])) ≡ record {
  nets = 4;
  joins = [];
  buffers = record { line = 0; src = 0; dst = 1 } ∷ record { line = 1; src = 2; dst = 3 } ∷ [];
  pins = read_pin ∷ fed_pin sends.Plain ∷ [];
  plls = [];
  globals = [];
  lut_inputs = read.All;
  register_clocks = false;
  lcs = record { x = 1; y = 1; i = 0; lut = 21845; carry = false; flip = false; «set» = false; is_async = false; neg = false; ins = Some 1 ∷ None ∷ None ∷ None ∷ []; out = Some 2; lout = None; cout = None; cin = None; clk = None; cen = None; sr = None } ∷ [];
  registers = [];
  sets = [];
  rams = [];
  start = [];
}
unfolding database_a image_with digits word_bits word_of bytes_of blank flat rows_of row_from rows_from kind_of start_in standard_widths standard_side_columns standard_pad_columns standard_pad_rows standard_banks place_of word_place_of any_below least_below last_below first_below gathered_below net_at names_of_net function_place extra_place input_of pad_of are_set is_link_on is_function_on is_any_on is_extra_on over_grid is_read cell_places cell_bits entry_bits cell_with cells_at cells_of register_of registers_of pin_register pin_registers_of sets_of is_ram_used ram_at rams_of start_words pintype_of pin_with pins_of pin_places global_nets globals_of is_refused_with is_joined class_of numbered_from joins_of buffers_of fabric_with drives_of drivers_of is_driven nets_read lut_value settled_bit value_of next_bit written shown next_words next_register state_after settled_state outputs_of output_values wiring_of clocked_wiring clocks_of_value has leads_below is_on_cycle turn_at pass_of is_at_open end_within clock_end clock_class users_of device_faults pll_tiles pll_tile pll_sources pll_ports pin_faults cascade_faults driver_faults loop_faults clock_faults pins_fault rams_fault fabric_fault design_fault
inverter = refl

-- nothing is wrong with it
inverter_taken : design_fault no_options database_a (both (at 1 1 2 0 ∷ [])) ≡ None
unfolding database_a image_with digits word_bits word_of bytes_of blank flat rows_of row_from rows_from kind_of start_in standard_widths standard_side_columns standard_pad_columns standard_pad_rows standard_banks place_of word_place_of any_below least_below last_below first_below gathered_below net_at names_of_net function_place extra_place input_of pad_of are_set is_link_on is_function_on is_any_on is_extra_on over_grid is_read cell_places cell_bits entry_bits cell_with cells_at cells_of register_of registers_of pin_register pin_registers_of sets_of is_ram_used ram_at rams_of start_words pintype_of pin_with pins_of pin_places global_nets globals_of is_refused_with is_joined class_of numbered_from joins_of buffers_of fabric_with drives_of drivers_of is_driven nets_read lut_value settled_bit value_of next_bit written shown next_words next_register state_after settled_state outputs_of output_values wiring_of clocked_wiring clocks_of_value has leads_below is_on_cycle turn_at pass_of is_at_open end_within clock_end clock_class users_of device_faults pll_tiles pll_tile pll_sources pll_ports pin_faults cascade_faults driver_faults loop_faults clock_faults pins_fault rams_fault fabric_fault design_fault
inverter_taken = refl

-- its drivers in their order
inverter_drivers : map {B = Driver × ℕ} (λ drive. (drive.driver, drive.net)) (drives_of (fabric_of database_a (both (at 1 1 2 0 ∷ [])))) ≡ (driver.Pin 0 1 0, 0) ∷ (driver.Lut 1 1 0, 2) ∷ (driver.Link 0, 1) ∷ (driver.Link 1, 3) ∷ []
unfolding database_a image_with digits word_bits word_of bytes_of blank flat rows_of row_from rows_from kind_of start_in standard_widths standard_side_columns standard_pad_columns standard_pad_rows standard_banks place_of word_place_of any_below least_below last_below first_below gathered_below net_at names_of_net function_place extra_place input_of pad_of are_set is_link_on is_function_on is_any_on is_extra_on over_grid is_read cell_places cell_bits entry_bits cell_with cells_at cells_of register_of registers_of pin_register pin_registers_of sets_of is_ram_used ram_at rams_of start_words pintype_of pin_with pins_of pin_places global_nets globals_of is_refused_with is_joined class_of numbered_from joins_of buffers_of fabric_with drives_of drivers_of is_driven nets_read lut_value settled_bit value_of next_bit written shown next_words next_register state_after settled_state outputs_of output_values wiring_of clocked_wiring clocks_of_value has leads_below is_on_cycle turn_at pass_of is_at_open end_within clock_end clock_class users_of device_faults pll_tiles pll_tile pll_sources pll_ports pin_faults cascade_faults driver_faults loop_faults clock_faults pins_fault rams_fault fabric_fault design_fault
inverter_drivers = refl

-- an image without a set bit
nothing_set : fabric_of database_a (image_with []) ≡ record { nets = 4; joins = []; buffers = []; pins = []; plls = []; globals = []; lut_inputs = read.All; register_clocks = false; lcs = []; registers = []; sets = []; rams = []; start = [] }
unfolding database_a image_with digits word_bits word_of bytes_of blank flat rows_of row_from rows_from kind_of start_in standard_widths standard_side_columns standard_pad_columns standard_pad_rows standard_banks place_of word_place_of any_below least_below last_below first_below gathered_below net_at names_of_net function_place extra_place input_of pad_of are_set is_link_on is_function_on is_any_on is_extra_on over_grid is_read cell_places cell_bits entry_bits cell_with cells_at cells_of register_of registers_of pin_register pin_registers_of sets_of is_ram_used ram_at rams_of start_words pintype_of pin_with pins_of pin_places global_nets globals_of is_refused_with is_joined class_of numbered_from joins_of buffers_of fabric_with drives_of drivers_of is_driven nets_read lut_value settled_bit value_of next_bit written shown next_words next_register state_after settled_state outputs_of output_values wiring_of clocked_wiring clocks_of_value has leads_below is_on_cycle turn_at pass_of is_at_open end_within clock_end clock_class users_of device_faults pll_tiles pll_tile pll_sources pll_ports pin_faults cascade_faults driver_faults loop_faults clock_faults pins_fault rams_fault fabric_fault design_fault
nothing_set = refl

-- it is taken
nothing_taken : design_fault no_options database_a (image_with []) ≡ None
unfolding database_a image_with digits word_bits word_of bytes_of blank flat rows_of row_from rows_from kind_of start_in standard_widths standard_side_columns standard_pad_columns standard_pad_rows standard_banks place_of word_place_of any_below least_below last_below first_below gathered_below net_at names_of_net function_place extra_place input_of pad_of are_set is_link_on is_function_on is_any_on is_extra_on over_grid is_read cell_places cell_bits entry_bits cell_with cells_at cells_of register_of registers_of pin_register pin_registers_of sets_of is_ram_used ram_at rams_of start_words pintype_of pin_with pins_of pin_places global_nets globals_of is_refused_with is_joined class_of numbered_from joins_of buffers_of fabric_with drives_of drivers_of is_driven nets_read lut_value settled_bit value_of next_bit written shown next_words next_register state_after settled_state outputs_of output_values wiring_of clocked_wiring clocks_of_value has leads_below is_on_cycle turn_at pass_of is_at_open end_within clock_end clock_class users_of device_faults pll_tiles pll_tile pll_sources pll_ports pin_faults cascade_faults driver_faults loop_faults clock_faults pins_fault rams_fault fabric_fault design_fault
nothing_taken = refl

-- two buffers to one net
two_buffers : design_fault no_options database_b (both (at 1 1 2 0 ∷ at 1 1 3 0 ∷ [])) ≡ Some (fault.two_drivers 1 (driver.Link 0) (driver.Link 2))
unfolding database_a database_b image_with digits word_bits word_of bytes_of blank flat rows_of row_from rows_from kind_of start_in standard_widths standard_side_columns standard_pad_columns standard_pad_rows standard_banks place_of word_place_of any_below least_below last_below first_below gathered_below net_at names_of_net function_place extra_place input_of pad_of are_set is_link_on is_function_on is_any_on is_extra_on over_grid is_read cell_places cell_bits entry_bits cell_with cells_at cells_of register_of registers_of pin_register pin_registers_of sets_of is_ram_used ram_at rams_of start_words pintype_of pin_with pins_of pin_places global_nets globals_of is_refused_with is_joined class_of numbered_from joins_of buffers_of fabric_with drives_of drivers_of is_driven nets_read lut_value settled_bit value_of next_bit written shown next_words next_register state_after settled_state outputs_of output_values wiring_of clocked_wiring clocks_of_value has leads_below is_on_cycle turn_at pass_of is_at_open end_within clock_end clock_class users_of device_faults pll_tiles pll_tile pll_sources pll_ports pin_faults cascade_faults driver_faults loop_faults clock_faults pins_fault rams_fault fabric_fault design_fault
two_buffers = refl

-- a LUT that reads itself
loop : design_fault no_options database_b (both (at 1 1 3 0 ∷ [])) ≡ Some (fault.loop 1)
unfolding database_a database_b image_with digits word_bits word_of bytes_of blank flat rows_of row_from rows_from kind_of start_in standard_widths standard_side_columns standard_pad_columns standard_pad_rows standard_banks place_of word_place_of any_below least_below last_below first_below gathered_below net_at names_of_net function_place extra_place input_of pad_of are_set is_link_on is_function_on is_any_on is_extra_on over_grid is_read cell_places cell_bits entry_bits cell_with cells_at cells_of register_of registers_of pin_register pin_registers_of sets_of is_ram_used ram_at rams_of start_words pintype_of pin_with pins_of pin_places global_nets globals_of is_refused_with is_joined class_of numbered_from joins_of buffers_of fabric_with drives_of drivers_of is_driven nets_read lut_value settled_bit value_of next_bit written shown next_words next_register state_after settled_state outputs_of output_values wiring_of clocked_wiring clocks_of_value has leads_below is_on_cycle turn_at pass_of is_at_open end_within clock_end clock_class users_of device_faults pll_tiles pll_tile pll_sources pll_ports pin_faults cascade_faults driver_faults loop_faults clock_faults pins_fault rams_fault fabric_fault design_fault
loop = refl

-- it reads the input that it inverts, so it is refused also if it reads only what it uses
loop_used : design_fault used_inputs database_b (both (at 1 1 3 0 ∷ [])) ≡ Some (fault.loop 1)
unfolding database_a database_b image_with digits word_bits word_of bytes_of blank flat rows_of row_from rows_from kind_of start_in standard_widths standard_side_columns standard_pad_columns standard_pad_rows standard_banks place_of word_place_of any_below least_below last_below first_below gathered_below net_at names_of_net function_place extra_place input_of pad_of are_set is_link_on is_function_on is_any_on is_extra_on over_grid is_read cell_places cell_bits entry_bits cell_with cells_at cells_of uses_input register_of registers_of pin_register pin_registers_of sets_of is_ram_used ram_at rams_of start_words pintype_of pin_with pins_of pin_places global_nets globals_of is_refused_with is_joined class_of numbered_from joins_of buffers_of fabric_with drives_of drivers_of is_driven nets_read lut_value settled_bit value_of next_bit written shown next_words next_register state_after settled_state outputs_of output_values wiring_of clocked_wiring clocks_of_value has leads_below is_on_cycle turn_at pass_of is_at_open end_within clock_end clock_class users_of device_faults pll_tiles pll_tile pll_sources pll_ports pin_faults cascade_faults driver_faults loop_faults clock_faults pins_fault rams_fault fabric_fault design_fault
loop_used = refl

-- a LUT whose value is fed back to its in_2, which it doesn't use
unused_loop : design_fault no_options database_f (both (at 1 1 3 0 ∷ [])) ≡ Some (fault.loop 1)
unfolding database_a database_b database_f image_with digits word_bits word_of bytes_of blank flat rows_of row_from rows_from kind_of start_in standard_widths standard_side_columns standard_pad_columns standard_pad_rows standard_banks place_of word_place_of any_below least_below last_below first_below gathered_below net_at names_of_net function_place extra_place input_of pad_of are_set is_link_on is_function_on is_any_on is_extra_on over_grid is_read cell_places cell_bits entry_bits cell_with cells_at cells_of uses_input register_of registers_of pin_register pin_registers_of sets_of is_ram_used ram_at rams_of start_words pintype_of pin_with pins_of pin_places global_nets globals_of is_refused_with is_joined class_of numbered_from joins_of buffers_of fabric_with drives_of drivers_of is_driven nets_read lut_value settled_bit value_of next_bit written shown next_words next_register state_after settled_state outputs_of output_values wiring_of clocked_wiring clocks_of_value has leads_below is_on_cycle turn_at pass_of is_at_open end_within clock_end clock_class users_of device_faults pll_tiles pll_tile pll_sources pll_ports pin_faults cascade_faults driver_faults loop_faults clock_faults pins_fault rams_fault fabric_fault design_fault
unused_loop = refl

unused_taken : design_fault used_inputs database_f (both (at 1 1 3 0 ∷ [])) ≡ None
unfolding database_a database_b database_f image_with digits word_bits word_of bytes_of blank flat rows_of row_from rows_from kind_of start_in standard_widths standard_side_columns standard_pad_columns standard_pad_rows standard_banks place_of word_place_of any_below least_below last_below first_below gathered_below net_at names_of_net function_place extra_place input_of pad_of are_set is_link_on is_function_on is_any_on is_extra_on over_grid is_read cell_places cell_bits entry_bits cell_with cells_at cells_of uses_input register_of registers_of pin_register pin_registers_of sets_of is_ram_used ram_at rams_of start_words pintype_of pin_with pins_of pin_places global_nets globals_of is_refused_with is_joined class_of numbered_from joins_of buffers_of fabric_with drives_of drivers_of is_driven nets_read lut_value settled_bit value_of next_bit written shown next_words next_register state_after settled_state outputs_of output_values wiring_of clocked_wiring clocks_of_value has leads_below is_on_cycle turn_at pass_of is_at_open end_within clock_end clock_class users_of device_faults pll_tiles pll_tile pll_sources pll_ports pin_faults cascade_faults driver_faults loop_faults clock_faults pins_fault rams_fault fabric_fault design_fault
unused_taken = refl

-- a clock that a LUT makes
made_clock : design_fault no_options database_b (both (at 1 1 2 0 ∷ at 1 1 0 45 ∷ at 1 1 4 0 ∷ [])) ≡ Some (fault.clock 1 1 (Cell 0) 4)
unfolding database_a database_b image_with digits word_bits word_of bytes_of blank flat rows_of row_from rows_from kind_of start_in standard_widths standard_side_columns standard_pad_columns standard_pad_rows standard_banks place_of word_place_of any_below least_below last_below first_below gathered_below net_at names_of_net function_place extra_place input_of pad_of are_set is_link_on is_function_on is_any_on is_extra_on over_grid is_read cell_places cell_bits entry_bits cell_with cells_at cells_of register_of registers_of pin_register pin_registers_of sets_of is_ram_used ram_at rams_of start_words pintype_of pin_with pins_of pin_places global_nets globals_of is_refused_with is_joined class_of numbered_from joins_of buffers_of fabric_with drives_of drivers_of is_driven nets_read lut_value settled_bit value_of next_bit written shown next_words next_register state_after settled_state outputs_of output_values wiring_of clocked_wiring clocks_of_value has leads_below is_on_cycle turn_at pass_of is_at_open end_within clock_end clock_class users_of device_faults pll_tiles pll_tile pll_sources pll_ports pin_faults cascade_faults driver_faults loop_faults clock_faults pins_fault rams_fault fabric_fault design_fault
made_clock = refl

-- a register that feeds itself, at falling edges: no loop
toggle : design_fault no_options database_b (both (at 1 1 0 45 ∷ at 1 1 3 0 ∷ at 1 1 5 0 ∷ at 1 1 6 0 ∷ [])) ≡ None
unfolding database_a database_b image_with digits word_bits word_of bytes_of blank flat rows_of row_from rows_from kind_of start_in standard_widths standard_side_columns standard_pad_columns standard_pad_rows standard_banks place_of word_place_of any_below least_below last_below first_below gathered_below net_at names_of_net function_place extra_place input_of pad_of are_set is_link_on is_function_on is_any_on is_extra_on over_grid is_read cell_places cell_bits entry_bits cell_with cells_at cells_of register_of registers_of pin_register pin_registers_of sets_of is_ram_used ram_at rams_of start_words pintype_of pin_with pins_of pin_places global_nets globals_of is_refused_with is_joined class_of numbered_from joins_of buffers_of fabric_with drives_of drivers_of is_driven nets_read lut_value settled_bit value_of next_bit written shown next_words next_register state_after settled_state outputs_of output_values wiring_of clocked_wiring clocks_of_value has leads_below is_on_cycle turn_at pass_of is_at_open end_within clock_end clock_class users_of device_faults pll_tiles pll_tile pll_sources pll_ports pin_faults cascade_faults driver_faults loop_faults clock_faults pins_fault rams_fault fabric_fault design_fault
toggle = refl

-- its cell
toggle_cell : cells_of database_b (both (at 1 1 0 45 ∷ at 1 1 3 0 ∷ at 1 1 5 0 ∷ at 1 1 6 0 ∷ [])) ≡ record { x = 1; y = 1; i = 0; lut = 21845; carry = false; flip = true; «set» = false; is_async = false; neg = true; ins = Some 1 ∷ None ∷ None ∷ None ∷ []; out = Some 2; lout = None; cout = None; cin = None; clk = Some 4; cen = None; sr = None } ∷ []
unfolding database_a database_b image_with digits word_bits word_of bytes_of blank flat rows_of row_from rows_from kind_of start_in standard_widths standard_side_columns standard_pad_columns standard_pad_rows standard_banks place_of word_place_of any_below least_below last_below first_below gathered_below net_at names_of_net function_place extra_place input_of pad_of are_set is_link_on is_function_on is_any_on is_extra_on over_grid is_read cell_places cell_bits entry_bits cell_with cells_at cells_of register_of registers_of pin_register pin_registers_of sets_of is_ram_used ram_at rams_of start_words pintype_of pin_with pins_of pin_places global_nets globals_of is_refused_with is_joined class_of numbered_from joins_of buffers_of fabric_with drives_of drivers_of is_driven nets_read lut_value settled_bit value_of next_bit written shown next_words next_register state_after settled_state outputs_of output_values wiring_of clocked_wiring clocks_of_value has leads_below is_on_cycle turn_at pass_of is_at_open end_within clock_end clock_class users_of device_faults pll_tiles pll_tile pll_sources pll_ports pin_faults cascade_faults driver_faults loop_faults clock_faults pins_fault rams_fault fabric_fault design_fault
toggle_cell = refl

-- a reset that acts at once is taken
reset_taken : design_fault no_options database_b (both (at 1 1 0 45 ∷ at 1 1 1 45 ∷ [])) ≡ None
unfolding database_a database_b image_with digits word_bits word_of bytes_of blank flat rows_of row_from rows_from kind_of start_in standard_widths standard_side_columns standard_pad_columns standard_pad_rows standard_banks place_of word_place_of any_below least_below last_below first_below gathered_below net_at names_of_net function_place extra_place input_of pad_of are_set is_link_on is_function_on is_any_on is_extra_on over_grid is_read cell_places cell_bits entry_bits cell_with cells_at cells_of register_of registers_of pin_register pin_registers_of sets_of is_ram_used ram_at rams_of start_words pintype_of pin_with pins_of pin_places global_nets globals_of is_refused_with is_joined class_of numbered_from joins_of buffers_of fabric_with drives_of drivers_of is_driven nets_read lut_value settled_bit value_of next_bit written shown next_words next_register state_after settled_state outputs_of output_values wiring_of clocked_wiring clocks_of_value has leads_below is_on_cycle turn_at pass_of is_at_open end_within clock_end clock_class users_of device_faults pll_tiles pll_tile pll_sources pll_ports pin_faults cascade_faults driver_faults loop_faults clock_faults pins_fault rams_fault fabric_fault design_fault
reset_taken = refl

-- a register that resets itself at once depends on itself
reset_loop : design_fault no_options database_d (both (at 1 1 0 45 ∷ at 1 1 1 45 ∷ at 1 1 3 0 ∷ at 1 1 5 0 ∷ at 1 1 6 0 ∷ [])) ≡ Some (fault.loop 2)
unfolding database_a database_b database_d image_with digits word_bits word_of bytes_of blank flat rows_of row_from rows_from kind_of start_in standard_widths standard_side_columns standard_pad_columns standard_pad_rows standard_banks place_of word_place_of any_below least_below last_below first_below gathered_below net_at names_of_net function_place extra_place input_of pad_of are_set is_link_on is_function_on is_any_on is_extra_on over_grid is_read cell_places cell_bits entry_bits cell_with cells_at cells_of register_of registers_of pin_register pin_registers_of sets_of is_ram_used ram_at rams_of start_words pintype_of pin_with pins_of pin_places global_nets globals_of is_refused_with is_joined class_of numbered_from joins_of buffers_of fabric_with drives_of drivers_of is_driven nets_read lut_value settled_bit value_of next_bit written shown next_words next_register state_after settled_state outputs_of output_values wiring_of clocked_wiring clocks_of_value has leads_below is_on_cycle turn_at pass_of is_at_open end_within clock_end clock_class users_of device_faults pll_tiles pll_tile pll_sources pll_ports pin_faults cascade_faults driver_faults loop_faults clock_faults pins_fault rams_fault fabric_fault design_fault
reset_loop = refl

-- and one that resets itself at the clock doesn't
reset_in_time : design_fault no_options database_d (both (at 1 1 0 45 ∷ at 1 1 3 0 ∷ at 1 1 5 0 ∷ at 1 1 6 0 ∷ [])) ≡ None
unfolding database_a database_b database_d image_with digits word_bits word_of bytes_of blank flat rows_of row_from rows_from kind_of start_in standard_widths standard_side_columns standard_pad_columns standard_pad_rows standard_banks place_of word_place_of any_below least_below last_below first_below gathered_below net_at names_of_net function_place extra_place input_of pad_of are_set is_link_on is_function_on is_any_on is_extra_on over_grid is_read cell_places cell_bits entry_bits cell_with cells_at cells_of register_of registers_of pin_register pin_registers_of sets_of is_ram_used ram_at rams_of start_words pintype_of pin_with pins_of pin_places global_nets globals_of is_refused_with is_joined class_of numbered_from joins_of buffers_of fabric_with drives_of drivers_of is_driven nets_read lut_value settled_bit value_of next_bit written shown next_words next_register state_after settled_state outputs_of output_values wiring_of clocked_wiring clocks_of_value has leads_below is_on_cycle turn_at pass_of is_at_open end_within clock_end clock_class users_of device_faults pll_tiles pll_tile pll_sources pll_ports pin_faults cascade_faults driver_faults loop_faults clock_faults pins_fault rams_fault fabric_fault design_fault
reset_in_time = refl

-- one bit of two: the link isn't on, and its clock is still
half_link : design_fault no_options database_b (both (at 1 1 2 0 ∷ at 1 1 0 45 ∷ at 1 1 4 0 ∷ at 1 1 5 0 ∷ [])) ≡ None
unfolding database_a database_b image_with digits word_bits word_of bytes_of blank flat rows_of row_from rows_from kind_of start_in standard_widths standard_side_columns standard_pad_columns standard_pad_rows standard_banks place_of word_place_of any_below least_below last_below first_below gathered_below net_at names_of_net function_place extra_place input_of pad_of are_set is_link_on is_function_on is_any_on is_extra_on over_grid is_read cell_places cell_bits entry_bits cell_with cells_at cells_of register_of registers_of pin_register pin_registers_of sets_of is_ram_used ram_at rams_of start_words pintype_of pin_with pins_of pin_places global_nets globals_of is_refused_with is_joined class_of numbered_from joins_of buffers_of fabric_with drives_of drivers_of is_driven nets_read lut_value settled_bit value_of next_bit written shown next_words next_register state_after settled_state outputs_of output_values wiring_of clocked_wiring clocks_of_value has leads_below is_on_cycle turn_at pass_of is_at_open end_within clock_end clock_class users_of device_faults pll_tiles pll_tile pll_sources pll_ports pin_faults cascade_faults driver_faults loop_faults clock_faults pins_fault rams_fault fabric_fault design_fault
half_link = refl

-- a pin with another output part
pin_output : design_fault no_options database_b (both (at 0 3 2 0 ∷ [])) ≡ Some (fault.pin_mode 0 3 0 4)
unfolding database_a database_b image_with digits word_bits word_of bytes_of blank flat rows_of row_from rows_from kind_of start_in standard_widths standard_side_columns standard_pad_columns standard_pad_rows standard_banks place_of word_place_of any_below least_below last_below first_below gathered_below net_at names_of_net function_place extra_place input_of pad_of are_set is_link_on is_function_on is_any_on is_extra_on over_grid is_read cell_places cell_bits entry_bits cell_with cells_at cells_of register_of registers_of pin_register pin_registers_of sets_of is_ram_used ram_at rams_of start_words pintype_of pin_with pins_of pin_places global_nets globals_of is_refused_with is_joined class_of numbered_from joins_of buffers_of fabric_with drives_of drivers_of is_driven nets_read lut_value settled_bit value_of next_bit written shown next_words next_register state_after settled_state outputs_of output_values wiring_of clocked_wiring clocks_of_value has leads_below is_on_cycle turn_at pass_of is_at_open end_within clock_end clock_class users_of device_faults pll_tiles pll_tile pll_sources pll_ports pin_faults cascade_faults driver_faults loop_faults clock_faults pins_fault rams_fault fabric_fault design_fault
pin_output = refl

-- an input part that is neither plain nor registered, whose net is read
pin_input : design_fault no_options database_b (image_with (at 0 1 1 0 ∷ at 1 1 2 0 ∷ [])) ≡ Some (fault.pin_mode 0 1 0 2)
unfolding database_a database_b image_with digits word_bits word_of bytes_of blank flat rows_of row_from rows_from kind_of start_in standard_widths standard_side_columns standard_pad_columns standard_pad_rows standard_banks place_of word_place_of any_below least_below last_below first_below gathered_below net_at names_of_net function_place extra_place input_of pad_of are_set is_link_on is_function_on is_any_on is_extra_on over_grid is_read cell_places cell_bits entry_bits cell_with cells_at cells_of register_of registers_of pin_register pin_registers_of sets_of is_ram_used ram_at rams_of start_words pintype_of pin_with pins_of pin_places global_nets globals_of is_refused_with is_joined class_of numbered_from joins_of buffers_of fabric_with drives_of drivers_of is_driven nets_read lut_value settled_bit value_of next_bit written shown next_words next_register state_after settled_state outputs_of output_values wiring_of clocked_wiring clocks_of_value has leads_below is_on_cycle turn_at pass_of is_at_open end_within clock_end clock_class users_of device_faults pll_tiles pll_tile pll_sources pll_ports pin_faults cascade_faults driver_faults loop_faults clock_faults pins_fault rams_fault fabric_fault design_fault
pin_input = refl

-- a registered input whose net is read
pin_registered : design_fault no_options database_b (image_with (at 1 1 2 0 ∷ [])) ≡ None
unfolding database_a database_b image_with digits word_bits word_of bytes_of blank flat rows_of row_from rows_from kind_of start_in standard_widths standard_side_columns standard_pad_columns standard_pad_rows standard_banks place_of word_place_of any_below least_below last_below first_below gathered_below net_at names_of_net function_place extra_place input_of pad_of are_set is_link_on is_function_on is_any_on is_extra_on over_grid is_read cell_places cell_bits entry_bits cell_with cells_at cells_of register_of registers_of pin_register pin_registers_of sets_of is_ram_used ram_at rams_of start_words pintype_of pin_with pins_of pin_places global_nets globals_of is_refused_with is_joined class_of numbered_from joins_of buffers_of fabric_with drives_of drivers_of is_driven nets_read lut_value settled_bit value_of next_bit written shown next_words next_register state_after settled_state outputs_of output_values wiring_of clocked_wiring clocks_of_value has leads_below is_on_cycle turn_at pass_of is_at_open end_within clock_end clock_class users_of device_faults pll_tiles pll_tile pll_sources pll_ports pin_faults cascade_faults driver_faults loop_faults clock_faults pins_fault rams_fault fabric_fault design_fault
pin_registered = refl

-- the register of a registered input takes the pin, and drives its net; the clock is another pin
registered_input : map {B = RegisterKind × Option ℕ × Option ℕ × List Signal} (λ register. (register.kind, register.out, register.clk, register.table.ins))
    (fabric_of database_e (image_with (at 0 2 0 0 ∷ at 0 2 3 0 ∷ at 0 2 4 0 ∷ at 0 2 6 0 ∷ at 0 3 0 0 ∷ (lut_i ++ at 1 1 2 0 ∷ [])))).registers
    ≡ (OfPin 0 kind.Input, Some 0, Some 4, signal.Input 0 ∷ net_or_0 None ∷ net_or_0 None ∷ net_or_0 None ∷ []) ∷ []
unfolding database_a database_e image_with digits word_bits word_of bytes_of blank flat rows_of row_from rows_from kind_of start_in standard_widths standard_side_columns standard_pad_columns standard_pad_rows standard_banks place_of word_place_of any_below least_below last_below first_below gathered_below net_at names_of_net function_place extra_place input_of pad_of are_set is_link_on is_function_on is_any_on is_extra_on over_grid is_read cell_places cell_bits entry_bits cell_with cells_at cells_of register_of registers_of pin_register pin_registers_of sets_of is_ram_used ram_at rams_of start_words pintype_of pin_with pins_of pin_places global_nets globals_of is_refused_with is_joined class_of numbered_from joins_of buffers_of fabric_with drives_of drivers_of is_driven nets_read lut_value settled_bit value_of next_bit written shown next_words next_register state_after settled_state outputs_of output_values wiring_of clocked_wiring clocks_of_value has leads_below is_on_cycle turn_at pass_of is_at_open end_within clock_end clock_class users_of device_faults pll_tiles pll_tile pll_sources pll_ports pin_faults cascade_faults driver_faults loop_faults clock_faults pins_fault rams_fault fabric_fault design_fault
registered_input = refl

-- its driver goes last
registered_drivers : map {B = Driver × ℕ} (λ drive. (drive.driver, drive.net))
    (drives_of (fabric_of database_e (image_with (at 0 2 0 0 ∷ at 0 2 3 0 ∷ at 0 2 4 0 ∷ at 0 2 6 0 ∷ at 0 3 0 0 ∷ (lut_i ++ at 1 1 2 0 ∷ [])))))
    ≡ (driver.Pin 0 3 0, 4) ∷ (driver.Lut 1 1 0, 2) ∷ (driver.Link 0, 1) ∷ (driver.Link 1, 3) ∷ (driver.PinReg 0 1 0, 0) ∷ []
unfolding database_a database_e image_with digits word_bits word_of bytes_of blank flat rows_of row_from rows_from kind_of start_in standard_widths standard_side_columns standard_pad_columns standard_pad_rows standard_banks place_of word_place_of any_below least_below last_below first_below gathered_below net_at names_of_net function_place extra_place input_of pad_of are_set is_link_on is_function_on is_any_on is_extra_on over_grid is_read cell_places cell_bits entry_bits cell_with cells_at cells_of register_of registers_of pin_register pin_registers_of sets_of is_ram_used ram_at rams_of start_words pintype_of pin_with pins_of pin_places global_nets globals_of is_refused_with is_joined class_of numbered_from joins_of buffers_of fabric_with drives_of drivers_of is_driven nets_read lut_value settled_bit value_of next_bit written shown next_words next_register state_after settled_state outputs_of output_values wiring_of clocked_wiring clocks_of_value has leads_below is_on_cycle turn_at pass_of is_at_open end_within clock_end clock_class users_of device_faults pll_tiles pll_tile pll_sources pll_ports pin_faults cascade_faults driver_faults loop_faults clock_faults pins_fault rams_fault fabric_fault design_fault
registered_drivers = refl

-- a tri-state pin has two outputs, the second of which is 1 if nothing drives it
switched : map {B = Bool × Signal} (λ output. (output.enable, output.source))
    (outputs_of (fabric_of database_a (image_with (at 0 1 0 0 ∷ at 0 2 0 0 ∷ at 0 2 3 0 ∷ at 0 2 5 0 ∷ at 0 2 6 0 ∷ (lut_i ++ at 1 1 2 0 ∷ [])))))
    ≡ (false, net_or_0 (Some 3)) ∷ (true, net_or_1 None) ∷ []
unfolding database_a image_with digits word_bits word_of bytes_of blank flat rows_of row_from rows_from kind_of start_in standard_widths standard_side_columns standard_pad_columns standard_pad_rows standard_banks place_of word_place_of any_below least_below last_below first_below gathered_below net_at names_of_net function_place extra_place input_of pad_of are_set is_link_on is_function_on is_any_on is_extra_on over_grid is_read cell_places cell_bits entry_bits cell_with cells_at cells_of register_of registers_of pin_register pin_registers_of sets_of is_ram_used ram_at rams_of start_words pintype_of pin_with pins_of pin_places global_nets globals_of is_refused_with is_joined class_of numbered_from joins_of buffers_of fabric_with drives_of drivers_of is_driven nets_read lut_value settled_bit value_of next_bit written shown next_words next_register state_after settled_state outputs_of output_values wiring_of clocked_wiring clocks_of_value has leads_below is_on_cycle turn_at pass_of is_at_open end_within clock_end clock_class users_of device_faults pll_tiles pll_tile pll_sources pll_ports pin_faults cascade_faults driver_faults loop_faults clock_faults pins_fault rams_fault fabric_fault design_fault
switched = refl

-- a registered output has the value of its register
registered_output : outputs_of (fabric_of database_a (image_with (at 0 1 0 0 ∷ at 0 2 0 0 ∷ at 0 2 2 0 ∷ at 0 2 4 0 ∷ at 0 2 6 0 ∷ (lut_i ++ at 1 1 2 0 ∷ [])))) ≡ record {
  pin = fed_pin sends.Registered;
  enable = false;
  source = signal.Register 0;
} ∷ []
unfolding database_a image_with digits word_bits word_of bytes_of blank flat rows_of row_from rows_from kind_of start_in standard_widths standard_side_columns standard_pad_columns standard_pad_rows standard_banks place_of word_place_of any_below least_below last_below first_below gathered_below net_at names_of_net function_place extra_place input_of pad_of are_set is_link_on is_function_on is_any_on is_extra_on over_grid is_read cell_places cell_bits entry_bits cell_with cells_at cells_of register_of registers_of pin_register pin_registers_of sets_of is_ram_used ram_at rams_of start_words pintype_of pin_with pins_of pin_places global_nets globals_of is_refused_with is_joined class_of numbered_from joins_of buffers_of fabric_with drives_of drivers_of is_driven nets_read lut_value settled_bit value_of next_bit written shown next_words next_register state_after settled_state outputs_of output_values wiring_of clocked_wiring clocks_of_value has leads_below is_on_cycle turn_at pass_of is_at_open end_within clock_end clock_class users_of device_faults pll_tiles pll_tile pll_sources pll_ports pin_faults cascade_faults driver_faults loop_faults clock_faults pins_fault rams_fault fabric_fault design_fault
registered_output = refl

-- which takes what is given to the pin, and has no clock here
output_register : (fabric_of database_a (image_with (at 0 1 0 0 ∷ at 0 2 0 0 ∷ at 0 2 2 0 ∷ at 0 2 4 0 ∷ at 0 2 6 0 ∷ (lut_i ++ at 1 1 2 0 ∷ [])))).registers ≡ record {
  x = 0;
  y = 2;
  kind = OfPin 0 kind.Output;
  out = None;
  clk = None;
  neg = false;
  enable = net_or_1 None;
  sr = None;
  «set» = false;
  is_async = false;
  table = record { word = 43690; ins = net_or_0 (Some 3) ∷ net_or_0 None ∷ net_or_0 None ∷ net_or_0 None ∷ [] };
} ∷ []
unfolding database_a image_with digits word_bits word_of bytes_of blank flat rows_of row_from rows_from kind_of start_in standard_widths standard_side_columns standard_pad_columns standard_pad_rows standard_banks place_of word_place_of any_below least_below last_below first_below gathered_below net_at names_of_net function_place extra_place input_of pad_of are_set is_link_on is_function_on is_any_on is_extra_on over_grid is_read cell_places cell_bits entry_bits cell_with cells_at cells_of register_of registers_of pin_register pin_registers_of sets_of is_ram_used ram_at rams_of start_words pintype_of pin_with pins_of pin_places global_nets globals_of is_refused_with is_joined class_of numbered_from joins_of buffers_of fabric_with drives_of drivers_of is_driven nets_read lut_value settled_bit value_of next_bit written shown next_words next_register state_after settled_state outputs_of output_values wiring_of clocked_wiring clocks_of_value has leads_below is_on_cycle turn_at pass_of is_at_open end_within clock_end clock_class users_of device_faults pll_tiles pll_tile pll_sources pll_ports pin_faults cascade_faults driver_faults loop_faults clock_faults pins_fault rams_fault fabric_fault design_fault
output_register = refl

-- another output part
not_switched : design_fault no_options database_a (image_with (at 0 1 0 0 ∷ at 0 2 0 0 ∷ at 0 2 2 0 ∷ at 0 2 5 0 ∷ at 0 2 6 0 ∷ (lut_i ++ at 1 1 2 0 ∷ []))) ≡ Some (fault.pin_mode 0 2 0 37)
unfolding database_a image_with digits word_bits word_of bytes_of blank flat rows_of row_from rows_from kind_of start_in standard_widths standard_side_columns standard_pad_columns standard_pad_rows standard_banks place_of word_place_of any_below least_below last_below first_below gathered_below net_at names_of_net function_place extra_place input_of pad_of are_set is_link_on is_function_on is_any_on is_extra_on over_grid is_read cell_places cell_bits entry_bits cell_with cells_at cells_of register_of registers_of pin_register pin_registers_of sets_of is_ram_used ram_at rams_of start_words pintype_of pin_with pins_of pin_places global_nets globals_of is_refused_with is_joined class_of numbered_from joins_of buffers_of fabric_with drives_of drivers_of is_driven nets_read lut_value settled_bit value_of next_bit written shown next_words next_register state_after settled_state outputs_of output_values wiring_of clocked_wiring clocks_of_value has leads_below is_on_cycle turn_at pass_of is_at_open end_within clock_end clock_class users_of device_faults pll_tiles pll_tile pll_sources pll_ports pin_faults cascade_faults driver_faults loop_faults clock_faults pins_fault rams_fault fabric_fault design_fault
not_switched = refl

-- a PLL with one output, at the pin that is read
pll_taken : pins_fault true database_h (both (at 0 2 9 0 ∷ at 1 1 2 0 ∷ [])) ≡ None
unfolding database_a database_h image_with digits word_bits word_of bytes_of blank flat rows_of row_from rows_from kind_of start_in standard_widths standard_side_columns standard_pad_columns standard_pad_rows standard_banks place_of word_place_of any_below least_below last_below first_below gathered_below net_at names_of_net function_place extra_place input_of pad_of are_set is_link_on is_function_on is_any_on is_extra_on over_grid is_read cell_places cell_bits entry_bits cell_with cells_at cells_of register_of registers_of pin_register pin_registers_of sets_of is_ram_used ram_at rams_of start_words pintype_of pin_with pins_of pin_places global_nets globals_of is_refused_with is_joined class_of numbered_from joins_of buffers_of fabric_with drives_of drivers_of is_driven nets_read lut_value settled_bit value_of next_bit written shown next_words next_register state_after settled_state outputs_of output_values wiring_of clocked_wiring clocks_of_value has leads_below is_on_cycle turn_at pass_of is_at_open end_within clock_end clock_class users_of device_faults pll_type output_pin output_net sources_in pll_sources has_unnamed is_pll_refused unnamed_tiles refused_tiles pll_tile pll_ports pin_faults cascade_faults driver_faults loop_faults clock_faults pins_fault rams_fault fabric_fault design_fault
pll_taken = refl

-- the output is the input port, in place of the pin
pll_inputs : inputs_of (fabric_with all_pins database_h (both (at 0 2 9 0 ∷ at 1 1 2 0 ∷ []))) ≡ port.Pll 0 1 output.A ∷ []
unfolding database_a database_h image_with digits word_bits word_of bytes_of blank flat rows_of row_from rows_from kind_of start_in standard_widths standard_side_columns standard_pad_columns standard_pad_rows standard_banks place_of word_place_of any_below least_below last_below first_below gathered_below net_at names_of_net function_place extra_place input_of pad_of are_set is_link_on is_function_on is_any_on is_extra_on over_grid is_read cell_places cell_bits entry_bits cell_with cells_at cells_of register_of registers_of pin_register pin_registers_of sets_of is_ram_used ram_at rams_of start_words pintype_of pin_with pins_of pin_places global_nets globals_of is_refused_with is_joined class_of numbered_from joins_of buffers_of fabric_with drives_of drivers_of is_driven nets_read lut_value settled_bit value_of next_bit written shown next_words next_register state_after settled_state outputs_of output_values wiring_of clocked_wiring clocks_of_value has leads_below is_on_cycle turn_at pass_of is_at_open end_within clock_end clock_class users_of device_faults pll_type output_pin output_net sources_in pll_sources has_unnamed is_pll_refused unnamed_tiles refused_tiles pll_tile pll_ports pin_faults cascade_faults driver_faults loop_faults clock_faults pins_fault rams_fault fabric_fault design_fault
pll_inputs = refl

-- and drives its net
pll_drivers : map {B = Driver × ℕ} (λ drive. (drive.driver, drive.net)) (drives_of (fabric_with all_pins database_h (both (at 0 2 9 0 ∷ at 1 1 2 0 ∷ []))))
    ≡ (driver.Lut 1 1 0, 2) ∷ (driver.Link 0, 1) ∷ (driver.Link 1, 3) ∷ (driver.PllOut 0 1 output.A, 0) ∷ []
unfolding database_a database_h image_with digits word_bits word_of bytes_of blank flat rows_of row_from rows_from kind_of start_in standard_widths standard_side_columns standard_pad_columns standard_pad_rows standard_banks place_of word_place_of any_below least_below last_below first_below gathered_below net_at names_of_net function_place extra_place input_of pad_of are_set is_link_on is_function_on is_any_on is_extra_on over_grid is_read cell_places cell_bits entry_bits cell_with cells_at cells_of register_of registers_of pin_register pin_registers_of sets_of is_ram_used ram_at rams_of start_words pintype_of pin_with pins_of pin_places global_nets globals_of is_refused_with is_joined class_of numbered_from joins_of buffers_of fabric_with drives_of drivers_of is_driven nets_read lut_value settled_bit value_of next_bit written shown next_words next_register state_after settled_state outputs_of output_values wiring_of clocked_wiring clocks_of_value has leads_below is_on_cycle turn_at pass_of is_at_open end_within clock_end clock_class users_of device_faults pll_type output_pin output_net sources_in pll_sources has_unnamed is_pll_refused unnamed_tiles refused_tiles pll_tile pll_ports pin_faults cascade_faults driver_faults loop_faults clock_faults pins_fault rams_fault fabric_fault design_fault
pll_drivers = refl

-- a type that is none
pll_type_unknown : pins_fault true database_h (both (at 0 2 8 0 ∷ at 1 1 2 0 ∷ [])) ≡ Some (fault.pll 0 1)
unfolding database_a database_h image_with digits word_bits word_of bytes_of blank flat rows_of row_from rows_from kind_of start_in standard_widths standard_side_columns standard_pad_columns standard_pad_rows standard_banks place_of word_place_of any_below least_below last_below first_below gathered_below net_at names_of_net function_place extra_place input_of pad_of are_set is_link_on is_function_on is_any_on is_extra_on over_grid is_read cell_places cell_bits entry_bits cell_with cells_at cells_of register_of registers_of pin_register pin_registers_of sets_of is_ram_used ram_at rams_of start_words pintype_of pin_with pins_of pin_places global_nets globals_of is_refused_with is_joined class_of numbered_from joins_of buffers_of fabric_with drives_of drivers_of is_driven nets_read lut_value settled_bit value_of next_bit written shown next_words next_register state_after settled_state outputs_of output_values wiring_of clocked_wiring clocks_of_value has leads_below is_on_cycle turn_at pass_of is_at_open end_within clock_end clock_class users_of device_faults pll_type output_pin output_net sources_in pll_sources has_unnamed is_pll_refused unnamed_tiles refused_tiles pll_tile pll_ports pin_faults cascade_faults driver_faults loop_faults clock_faults pins_fault rams_fault fabric_fault design_fault
pll_type_unknown = refl

-- a function that no PLL names
pll_unnamed : pins_fault true database_h (both (at 0 3 9 0 ∷ at 1 1 2 0 ∷ [])) ≡ Some (fault.pll 0 3)
unfolding database_a database_h image_with digits word_bits word_of bytes_of blank flat rows_of row_from rows_from kind_of start_in standard_widths standard_side_columns standard_pad_columns standard_pad_rows standard_banks place_of word_place_of any_below least_below last_below first_below gathered_below net_at names_of_net function_place extra_place input_of pad_of are_set is_link_on is_function_on is_any_on is_extra_on over_grid is_read cell_places cell_bits entry_bits cell_with cells_at cells_of register_of registers_of pin_register pin_registers_of sets_of is_ram_used ram_at rams_of start_words pintype_of pin_with pins_of pin_places global_nets globals_of is_refused_with is_joined class_of numbered_from joins_of buffers_of fabric_with drives_of drivers_of is_driven nets_read lut_value settled_bit value_of next_bit written shown next_words next_register state_after settled_state outputs_of output_values wiring_of clocked_wiring clocks_of_value has leads_below is_on_cycle turn_at pass_of is_at_open end_within clock_end clock_class users_of device_faults pll_type output_pin output_net sources_in pll_sources has_unnamed is_pll_refused unnamed_tiles refused_tiles pll_tile pll_ports pin_faults cascade_faults driver_faults loop_faults clock_faults pins_fault rams_fault fabric_fault design_fault
pll_unnamed = refl

-- an output that isn't read as it is
pll_misread : pins_fault true database_h (image_with (at 0 2 0 0 ∷ at 0 2 3 0 ∷ at 0 2 4 0 ∷ at 0 2 6 0 ∷ at 0 2 9 0 ∷ (lut_i ++ at 1 1 2 0 ∷ []))) ≡ Some (fault.pin_mode 0 1 0 0)
unfolding database_a database_h image_with digits word_bits word_of bytes_of blank flat rows_of row_from rows_from kind_of start_in standard_widths standard_side_columns standard_pad_columns standard_pad_rows standard_banks place_of word_place_of any_below least_below last_below first_below gathered_below net_at names_of_net function_place extra_place input_of pad_of are_set is_link_on is_function_on is_any_on is_extra_on over_grid is_read cell_places cell_bits entry_bits cell_with cells_at cells_of register_of registers_of pin_register pin_registers_of sets_of is_ram_used ram_at rams_of start_words pintype_of pin_with pins_of pin_places global_nets globals_of is_refused_with is_joined class_of numbered_from joins_of buffers_of fabric_with drives_of drivers_of is_driven nets_read lut_value settled_bit value_of next_bit written shown next_words next_register state_after settled_state outputs_of output_values wiring_of clocked_wiring clocks_of_value has leads_below is_on_cycle turn_at pass_of is_at_open end_within clock_end clock_class users_of device_faults pll_type output_pin output_net sources_in pll_sources has_unnamed is_pll_refused unnamed_tiles refused_tiles pll_tile pll_ports pin_faults cascade_faults driver_faults loop_faults clock_faults pins_fault rams_fault fabric_fault design_fault
pll_misread = refl

-- without the option a PLL isn't taken
pll_without : pins_fault false database_h (both (at 0 2 9 0 ∷ at 1 1 2 0 ∷ [])) ≡ Some (fault.pll 0 2)
unfolding database_a database_h image_with digits word_bits word_of bytes_of blank flat rows_of row_from rows_from kind_of start_in standard_widths standard_side_columns standard_pad_columns standard_pad_rows standard_banks place_of word_place_of any_below least_below last_below first_below gathered_below net_at names_of_net function_place extra_place input_of pad_of are_set is_link_on is_function_on is_any_on is_extra_on over_grid is_read cell_places cell_bits entry_bits cell_with cells_at cells_of register_of registers_of pin_register pin_registers_of sets_of is_ram_used ram_at rams_of start_words pintype_of pin_with pins_of pin_places global_nets globals_of is_refused_with is_joined class_of numbered_from joins_of buffers_of fabric_with drives_of drivers_of is_driven nets_read lut_value settled_bit value_of next_bit written shown next_words next_register state_after settled_state outputs_of output_values wiring_of clocked_wiring clocks_of_value has leads_below is_on_cycle turn_at pass_of is_at_open end_within clock_end clock_class users_of device_faults pll_type output_pin output_net sources_in pll_sources has_unnamed is_pll_refused unnamed_tiles refused_tiles pll_tiles pll_tile pll_ports pin_faults cascade_faults driver_faults loop_faults clock_faults pins_fault rams_fault fabric_fault design_fault
pll_without = refl

-- the other device
device : device_faults database_a (blank_image (standard_layout Hx8k)) ≡ fault.other_device ∷ []
unfolding database_a image_with digits word_bits word_of bytes_of blank flat rows_of row_from rows_from kind_of start_in standard_widths standard_side_columns standard_pad_columns standard_pad_rows standard_banks place_of word_place_of any_below least_below last_below first_below gathered_below net_at names_of_net function_place extra_place input_of pad_of are_set is_link_on is_function_on is_any_on is_extra_on over_grid is_read cell_places cell_bits entry_bits cell_with cells_at cells_of register_of registers_of pin_register pin_registers_of sets_of is_ram_used ram_at rams_of start_words pintype_of pin_with pins_of pin_places global_nets globals_of is_refused_with is_joined class_of numbered_from joins_of buffers_of fabric_with drives_of drivers_of is_driven nets_read lut_value settled_bit value_of next_bit written shown next_words next_register state_after settled_state outputs_of output_values wiring_of clocked_wiring clocks_of_value has leads_below is_on_cycle turn_at pass_of is_at_open end_within clock_end clock_class users_of device_faults pll_tiles pll_tile pll_sources pll_ports pin_faults cascade_faults driver_faults loop_faults clock_faults pins_fault rams_fault fabric_fault design_fault
device = refl

-- a PLL
pll : design_fault no_options database_c (both (at 0 9 9 0 ∷ at 0 3 2 0 ∷ [])) ≡ Some (fault.pll 0 9)
unfolding database_a database_b database_c image_with digits word_bits word_of bytes_of blank flat rows_of row_from rows_from kind_of start_in standard_widths standard_side_columns standard_pad_columns standard_pad_rows standard_banks place_of word_place_of any_below least_below last_below first_below gathered_below net_at names_of_net function_place extra_place input_of pad_of are_set is_link_on is_function_on is_any_on is_extra_on over_grid is_read cell_places cell_bits entry_bits cell_with cells_at cells_of register_of registers_of pin_register pin_registers_of sets_of is_ram_used ram_at rams_of start_words pintype_of pin_with pins_of pin_places global_nets globals_of is_refused_with is_joined class_of numbered_from joins_of buffers_of fabric_with drives_of drivers_of is_driven nets_read lut_value settled_bit value_of next_bit written shown next_words next_register state_after settled_state outputs_of output_values wiring_of clocked_wiring clocks_of_value has leads_below is_on_cycle turn_at pass_of is_at_open end_within clock_end clock_class users_of device_faults pll_tiles pll_tile pll_sources pll_ports pin_faults cascade_faults driver_faults loop_faults clock_faults pins_fault rams_fault fabric_fault design_fault
pll = refl

-- a port beside a differential pair
lvds : design_fault no_options database_c (both (at 0 1 10 0 ∷ [])) ≡ Some (fault.pin_mode 0 1 0 1)
unfolding database_a database_b database_c image_with digits word_bits word_of bytes_of blank flat rows_of row_from rows_from kind_of start_in standard_widths standard_side_columns standard_pad_columns standard_pad_rows standard_banks place_of word_place_of any_below least_below last_below first_below gathered_below net_at names_of_net function_place extra_place input_of pad_of are_set is_link_on is_function_on is_any_on is_extra_on over_grid is_read cell_places cell_bits entry_bits cell_with cells_at cells_of register_of registers_of pin_register pin_registers_of sets_of is_ram_used ram_at rams_of start_words pintype_of pin_with pins_of pin_places global_nets globals_of is_refused_with is_joined class_of numbered_from joins_of buffers_of fabric_with drives_of drivers_of is_driven nets_read lut_value settled_bit value_of next_bit written shown next_words next_register state_after settled_state outputs_of output_values wiring_of clocked_wiring clocks_of_value has leads_below is_on_cycle turn_at pass_of is_at_open end_within clock_end clock_class users_of device_faults pll_tiles pll_tile pll_sources pll_ports pin_faults cascade_faults driver_faults loop_faults clock_faults pins_fault rams_fault fabric_fault design_fault
lvds = refl

-- a second input that a routing reads
second_input : design_fault no_options database_c (both (at 1 1 8 0 ∷ [])) ≡ Some (fault.pin_mode 0 1 0 1)
unfolding database_a database_b database_c image_with digits word_bits word_of bytes_of blank flat rows_of row_from rows_from kind_of start_in standard_widths standard_side_columns standard_pad_columns standard_pad_rows standard_banks place_of word_place_of any_below least_below last_below first_below gathered_below net_at names_of_net function_place extra_place input_of pad_of are_set is_link_on is_function_on is_any_on is_extra_on over_grid is_read cell_places cell_bits entry_bits cell_with cells_at cells_of register_of registers_of pin_register pin_registers_of sets_of is_ram_used ram_at rams_of start_words pintype_of pin_with pins_of pin_places global_nets globals_of is_refused_with is_joined class_of numbered_from joins_of buffers_of fabric_with drives_of drivers_of is_driven nets_read lut_value settled_bit value_of next_bit written shown next_words next_register state_after settled_state outputs_of output_values wiring_of clocked_wiring clocks_of_value has leads_below is_on_cycle turn_at pass_of is_at_open end_within clock_end clock_class users_of device_faults pll_tiles pll_tile pll_sources pll_ports pin_faults cascade_faults driver_faults loop_faults clock_faults pins_fault rams_fault fabric_fault design_fault
second_input = refl

-- a RAM whose words are narrow is taken; it is used for its buffer is on
narrow : map {B = ℕ × ℕ} (λ ram. (ram.read, ram.write)) (rams_of database_c (both (at 3 1 0 0 ∷ at 3 2 1 0 ∷ at 3 2 2 0 ∷ []))) ≡ (2, 1) ∷ []
unfolding database_a database_b database_c image_with digits word_bits word_of bytes_of blank flat rows_of row_from rows_from kind_of start_in standard_widths standard_side_columns standard_pad_columns standard_pad_rows standard_banks place_of word_place_of any_below least_below last_below first_below gathered_below net_at names_of_net function_place extra_place input_of pad_of are_set is_link_on is_function_on is_any_on is_extra_on over_grid is_read cell_places cell_bits entry_bits cell_with cells_at cells_of register_of registers_of pin_register pin_registers_of sets_of is_ram_used ram_at rams_of start_words pintype_of pin_with pins_of pin_places global_nets globals_of is_refused_with is_joined class_of numbered_from joins_of buffers_of fabric_with drives_of drivers_of is_driven nets_read lut_value settled_bit value_of next_bit written shown next_words next_register state_after settled_state outputs_of output_values wiring_of clocked_wiring clocks_of_value has leads_below is_on_cycle turn_at pass_of is_at_open end_within clock_end clock_class users_of device_faults pll_tiles pll_tile pll_sources pll_ports pin_faults cascade_faults driver_faults loop_faults clock_faults pins_fault rams_fault fabric_fault design_fault
narrow = refl

narrow_taken : rams_fault database_c (both (at 3 1 0 0 ∷ at 3 2 1 0 ∷ at 3 2 2 0 ∷ [])) ≡ None
unfolding database_a database_b database_c image_with digits word_bits word_of bytes_of blank flat rows_of row_from rows_from kind_of start_in standard_widths standard_side_columns standard_pad_columns standard_pad_rows standard_banks place_of word_place_of any_below least_below last_below first_below gathered_below net_at names_of_net function_place extra_place input_of pad_of are_set is_link_on is_function_on is_any_on is_extra_on over_grid is_read cell_places cell_bits entry_bits cell_with cells_at cells_of register_of registers_of pin_register pin_registers_of sets_of is_ram_used ram_at rams_of start_words pintype_of pin_with pins_of pin_places global_nets globals_of is_refused_with is_joined class_of numbered_from joins_of buffers_of fabric_with drives_of drivers_of is_driven nets_read lut_value settled_bit value_of next_bit written shown next_words next_register state_after settled_state outputs_of output_values wiring_of clocked_wiring clocks_of_value has leads_below is_on_cycle turn_at pass_of is_at_open end_within clock_end clock_class users_of device_faults pll_tiles pll_tile pll_sources pll_ports pin_faults cascade_faults driver_faults loop_faults clock_faults pins_fault rams_fault fabric_fault design_fault
narrow_taken = refl

-- a RAM that isn't used isn't asked
unused_ram : design_fault no_options database_c (both (at 3 2 1 0 ∷ at 3 1 3 0 ∷ [])) ≡ None
unfolding database_a database_b database_c image_with digits word_bits word_of bytes_of blank flat rows_of row_from rows_from kind_of start_in standard_widths standard_side_columns standard_pad_columns standard_pad_rows standard_banks place_of word_place_of any_below least_below last_below first_below gathered_below net_at names_of_net function_place extra_place input_of pad_of are_set is_link_on is_function_on is_any_on is_extra_on over_grid is_read cell_places cell_bits entry_bits cell_with cells_at cells_of register_of registers_of pin_register pin_registers_of sets_of is_ram_used ram_at rams_of start_words pintype_of pin_with pins_of pin_places global_nets globals_of is_refused_with is_joined class_of numbered_from joins_of buffers_of fabric_with drives_of drivers_of is_driven nets_read lut_value settled_bit value_of next_bit written shown next_words next_register state_after settled_state outputs_of output_values wiring_of clocked_wiring clocks_of_value has leads_below is_on_cycle turn_at pass_of is_at_open end_within clock_end clock_class users_of device_faults pll_tiles pll_tile pll_sources pll_ports pin_faults cascade_faults driver_faults loop_faults clock_faults pins_fault rams_fault fabric_fault design_fault
unused_ram = refl

-- a cascade
cascade : design_fault no_options database_c (both (at 3 1 0 0 ∷ at 3 1 3 0 ∷ [])) ≡ Some (fault.cascade 3 1)
unfolding database_a database_b database_c image_with digits word_bits word_of bytes_of blank flat rows_of row_from rows_from kind_of start_in standard_widths standard_side_columns standard_pad_columns standard_pad_rows standard_banks place_of word_place_of any_below least_below last_below first_below gathered_below net_at names_of_net function_place extra_place input_of pad_of are_set is_link_on is_function_on is_any_on is_extra_on over_grid is_read cell_places cell_bits entry_bits cell_with cells_at cells_of register_of registers_of pin_register pin_registers_of sets_of is_ram_used ram_at rams_of start_words pintype_of pin_with pins_of pin_places global_nets globals_of is_refused_with is_joined class_of numbered_from joins_of buffers_of fabric_with drives_of drivers_of is_driven nets_read lut_value settled_bit value_of next_bit written shown next_words next_register state_after settled_state outputs_of output_values wiring_of clocked_wiring clocks_of_value has leads_below is_on_cycle turn_at pass_of is_at_open end_within clock_end clock_class users_of device_faults pll_tiles pll_tile pll_sources pll_ports pin_faults cascade_faults driver_faults loop_faults clock_faults pins_fault rams_fault fabric_fault design_fault
cascade = refl

-- a pin and a RAM on one net
pin_and_ram : design_fault no_options database_c (both (at 3 1 0 0 ∷ [])) ≡ Some (fault.two_drivers 0 (driver.Pin 0 1 0) (driver.Link 5))
unfolding database_a database_b database_c image_with digits word_bits word_of bytes_of blank flat rows_of row_from rows_from kind_of start_in standard_widths standard_side_columns standard_pad_columns standard_pad_rows standard_banks place_of word_place_of any_below least_below last_below first_below gathered_below net_at names_of_net function_place extra_place input_of pad_of are_set is_link_on is_function_on is_any_on is_extra_on over_grid is_read cell_places cell_bits entry_bits cell_with cells_at cells_of register_of registers_of pin_register pin_registers_of sets_of is_ram_used ram_at rams_of start_words pintype_of pin_with pins_of pin_places global_nets globals_of is_refused_with is_joined class_of numbered_from joins_of buffers_of fabric_with drives_of drivers_of is_driven nets_read lut_value settled_bit value_of next_bit written shown next_words next_register state_after settled_state outputs_of output_values wiring_of clocked_wiring clocks_of_value has leads_below is_on_cycle turn_at pass_of is_at_open end_within clock_end clock_class users_of device_faults pll_tiles pll_tile pll_sources pll_ports pin_faults cascade_faults driver_faults loop_faults clock_faults pins_fault rams_fault fabric_fault design_fault
pin_and_ram = refl

-- the clock of a RAM is inverted in the upper tile, where its name is found
ram_clock : map {B = Bool × Bool × Option ℕ} (λ ram. (ram.rneg, ram.wneg, ram.rclk)) (rams_of database_c (both (at 3 1 0 0 ∷ at 3 2 4 0 ∷ []))) ≡ (true, false, Some 4) ∷ []
unfolding database_a database_b database_c image_with digits word_bits word_of bytes_of blank flat rows_of row_from rows_from kind_of start_in standard_widths standard_side_columns standard_pad_columns standard_pad_rows standard_banks place_of word_place_of any_below least_below last_below first_below gathered_below net_at names_of_net function_place extra_place input_of pad_of are_set is_link_on is_function_on is_any_on is_extra_on over_grid is_read cell_places cell_bits entry_bits cell_with cells_at cells_of register_of registers_of pin_register pin_registers_of sets_of is_ram_used ram_at rams_of start_words pintype_of pin_with pins_of pin_places global_nets globals_of is_refused_with is_joined class_of numbered_from joins_of buffers_of fabric_with drives_of drivers_of is_driven nets_read lut_value settled_bit value_of next_bit written shown next_words next_register state_after settled_state outputs_of output_values wiring_of clocked_wiring clocks_of_value has leads_below is_on_cycle turn_at pass_of is_at_open end_within clock_end clock_class users_of device_faults pll_tiles pll_tile pll_sources pll_ports pin_faults cascade_faults driver_faults loop_faults clock_faults pins_fault rams_fault fabric_fault design_fault
ram_clock = refl

-- a global without its pad's bit has its net `fabout`
global_fabout : globals_of false database_c (image_with []) ≡ record { g = 2; net = 6; from = Fabout 7 } ∷ record { g = 2; net = 8; from = Fabout 7 } ∷ []
unfolding database_a database_b database_c image_with digits word_bits word_of bytes_of blank flat rows_of row_from rows_from kind_of start_in standard_widths standard_side_columns standard_pad_columns standard_pad_rows standard_banks place_of word_place_of any_below least_below last_below first_below gathered_below net_at names_of_net function_place extra_place input_of pad_of are_set is_link_on is_function_on is_any_on is_extra_on over_grid is_read cell_places cell_bits entry_bits cell_with cells_at cells_of register_of registers_of pin_register pin_registers_of sets_of is_ram_used ram_at rams_of start_words pintype_of pin_with pins_of pin_places global_nets globals_of is_refused_with is_joined class_of numbered_from joins_of buffers_of fabric_with drives_of drivers_of is_driven nets_read lut_value settled_bit value_of next_bit written shown next_words next_register state_after settled_state outputs_of output_values wiring_of clocked_wiring clocks_of_value has leads_below is_on_cycle turn_at pass_of is_at_open end_within clock_end clock_class users_of device_faults pll_tiles pll_tile pll_sources pll_ports pin_faults cascade_faults driver_faults loop_faults clock_faults pins_fault rams_fault fabric_fault design_fault
global_fabout = refl

-- and with it the pad
global_pad : globals_of false database_c (record (blank_image (standard_layout Hx1k)) { cram = with_place_bit (blank_image (standard_layout Hx1k)).cram (record { bank = 0; px = 330; py = 143 }) true }) ≡ record { g = 2; net = 6; from = Pad 0 1 0 } ∷ record { g = 2; net = 8; from = Pad 0 1 0 } ∷ []
unfolding database_a database_b database_c image_with digits word_bits word_of bytes_of blank flat rows_of row_from rows_from kind_of start_in standard_widths standard_side_columns standard_pad_columns standard_pad_rows standard_banks place_of word_place_of any_below least_below last_below first_below gathered_below net_at names_of_net function_place extra_place input_of pad_of are_set is_link_on is_function_on is_any_on is_extra_on over_grid is_read cell_places cell_bits entry_bits cell_with cells_at cells_of register_of registers_of pin_register pin_registers_of sets_of is_ram_used ram_at rams_of start_words pintype_of pin_with pins_of pin_places global_nets globals_of is_refused_with is_joined class_of numbered_from joins_of buffers_of fabric_with drives_of drivers_of is_driven nets_read lut_value settled_bit value_of next_bit written shown next_words next_register state_after settled_state outputs_of output_values wiring_of clocked_wiring clocks_of_value has leads_below is_on_cycle turn_at pass_of is_at_open end_within clock_end clock_class users_of device_faults pll_tiles pll_tile pll_sources pll_ports pin_faults cascade_faults driver_faults loop_faults clock_faults pins_fault rams_fault fabric_fault design_fault
global_pad = refl

-- a pad that isn't an input pin
bad_pad : pins_fault false database_c (record (blank_image (standard_layout Hx1k)) { cram = with_place_bit (blank_image (standard_layout Hx1k)).cram (record { bank = 0; px = 330; py = 143 }) true }) ≡ Some (fault.pin_mode 0 1 0 0)
unfolding database_a database_b database_c image_with digits word_bits word_of bytes_of blank flat rows_of row_from rows_from kind_of start_in standard_widths standard_side_columns standard_pad_columns standard_pad_rows standard_banks place_of word_place_of any_below least_below last_below first_below gathered_below net_at names_of_net function_place extra_place input_of pad_of are_set is_link_on is_function_on is_any_on is_extra_on over_grid is_read cell_places cell_bits entry_bits cell_with cells_at cells_of register_of registers_of pin_register pin_registers_of sets_of is_ram_used ram_at rams_of start_words pintype_of pin_with pins_of pin_places global_nets globals_of is_refused_with is_joined class_of numbered_from joins_of buffers_of fabric_with drives_of drivers_of is_driven nets_read lut_value settled_bit value_of next_bit written shown next_words next_register state_after settled_state outputs_of output_values wiring_of clocked_wiring clocks_of_value has leads_below is_on_cycle turn_at pass_of is_at_open end_within clock_end clock_class users_of device_faults pll_tiles pll_tile pll_sources pll_ports pin_faults cascade_faults driver_faults loop_faults clock_faults pins_fault rams_fault fabric_fault design_fault
bad_pad = refl

-- routings join both ways: 3, 7 and 8 are one class of joined nets
classes : map (class_of ((7, 3) ∷ (3, 8) ∷ [])) (0 ∷ 3 ∷ 7 ∷ 8 ∷ []) ≡ 0 ∷ 3 ∷ 3 ∷ 3 ∷ []
unfolding image_with digits word_bits word_of bytes_of blank flat rows_of row_from rows_from kind_of start_in standard_widths standard_side_columns standard_pad_columns standard_pad_rows standard_banks place_of word_place_of any_below least_below last_below first_below gathered_below net_at names_of_net function_place extra_place input_of pad_of are_set is_link_on is_function_on is_any_on is_extra_on over_grid is_read cell_places cell_bits entry_bits cell_with cells_at cells_of register_of registers_of pin_register pin_registers_of sets_of is_ram_used ram_at rams_of start_words pintype_of pin_with pins_of pin_places global_nets globals_of is_refused_with is_joined class_of numbered_from joins_of buffers_of fabric_with drives_of drivers_of is_driven nets_read lut_value settled_bit value_of next_bit written shown next_words next_register state_after settled_state outputs_of output_values wiring_of clocked_wiring clocks_of_value has leads_below is_on_cycle turn_at pass_of is_at_open end_within clock_end clock_class users_of device_faults pll_tiles pll_tile pll_sources pll_ports pin_faults cascade_faults driver_faults loop_faults clock_faults pins_fault rams_fault fabric_fault design_fault
classes = refl

-- entry 1 of a LUT has in_0 alone
entry_one : lut_value (λ net. true) nothing_kept [] (λ net. net == 0) (table_of read.All (cell_with_lut 2)) ≡ true
unfolding image_with digits word_bits word_of bytes_of blank flat rows_of row_from rows_from kind_of start_in standard_widths standard_side_columns standard_pad_columns standard_pad_rows standard_banks place_of word_place_of any_below least_below last_below first_below gathered_below net_at names_of_net function_place extra_place input_of pad_of are_set is_link_on is_function_on is_any_on is_extra_on over_grid is_read cell_places cell_bits entry_bits cell_with cells_at cells_of register_of registers_of pin_register pin_registers_of sets_of is_ram_used ram_at rams_of start_words pintype_of pin_with pins_of pin_places global_nets globals_of is_refused_with is_joined class_of numbered_from joins_of buffers_of fabric_with drives_of drivers_of is_driven nets_read lut_value settled_bit value_of next_bit written shown next_words next_register state_after settled_state outputs_of output_values wiring_of clocked_wiring clocks_of_value has leads_below is_on_cycle turn_at pass_of is_at_open end_within clock_end clock_class users_of device_faults pll_tiles pll_tile pll_sources pll_ports pin_faults cascade_faults driver_faults loop_faults clock_faults pins_fault rams_fault fabric_fault design_fault
entry_one = refl

-- entry 8 has in_3 alone
entry_eight : lut_value (λ net. true) nothing_kept [] (λ net. net == 3) (table_of read.All (cell_with_lut 256)) ≡ true
unfolding image_with digits word_bits word_of bytes_of blank flat rows_of row_from rows_from kind_of start_in standard_widths standard_side_columns standard_pad_columns standard_pad_rows standard_banks place_of word_place_of any_below least_below last_below first_below gathered_below net_at names_of_net function_place extra_place input_of pad_of are_set is_link_on is_function_on is_any_on is_extra_on over_grid is_read cell_places cell_bits entry_bits cell_with cells_at cells_of register_of registers_of pin_register pin_registers_of sets_of is_ram_used ram_at rams_of start_words pintype_of pin_with pins_of pin_places global_nets globals_of is_refused_with is_joined class_of numbered_from joins_of buffers_of fabric_with drives_of drivers_of is_driven nets_read lut_value settled_bit value_of next_bit written shown next_words next_register state_after settled_state outputs_of output_values wiring_of clocked_wiring clocks_of_value has leads_below is_on_cycle turn_at pass_of is_at_open end_within clock_end clock_class users_of device_faults pll_tiles pll_tile pll_sources pll_ports pin_faults cascade_faults driver_faults loop_faults clock_faults pins_fault rams_fault fabric_fault design_fault
entry_eight = refl

-- an input without a driver counts as 0
entry_none : lut_value (λ net. false) nothing_kept [] (λ net. true) (table_of read.All (cell_with_lut 1)) ≡ true
unfolding image_with digits word_bits word_of bytes_of blank flat rows_of row_from rows_from kind_of start_in standard_widths standard_side_columns standard_pad_columns standard_pad_rows standard_banks place_of word_place_of any_below least_below last_below first_below gathered_below net_at names_of_net function_place extra_place input_of pad_of are_set is_link_on is_function_on is_any_on is_extra_on over_grid is_read cell_places cell_bits entry_bits cell_with cells_at cells_of register_of registers_of pin_register pin_registers_of sets_of is_ram_used ram_at rams_of start_words pintype_of pin_with pins_of pin_places global_nets globals_of is_refused_with is_joined class_of numbered_from joins_of buffers_of fabric_with drives_of drivers_of is_driven nets_read lut_value settled_bit value_of next_bit written shown next_words next_register state_after settled_state outputs_of output_values wiring_of clocked_wiring clocks_of_value has leads_below is_on_cycle turn_at pass_of is_at_open end_within clock_end clock_class users_of device_faults pll_tiles pll_tile pll_sources pll_ports pin_faults cascade_faults driver_faults loop_faults clock_faults pins_fault rams_fault fabric_fault design_fault
entry_none = refl

-- ---- which inputs LUTs use

abbrev uses : ℕ → List Bool
uses word = uses_input word 0 ∷ uses_input word 1 ∷ uses_input word 2 ∷ uses_input word 3 ∷ []

abbrev reads_of : ℕ → List ℕ
reads_of word = nets_read (table_entry (table_of read.Used (cell_with_lut word)))

-- one that inverts in_0
uses_first : uses 21845 ≡ true ∷ false ∷ false ∷ false ∷ []
unfolding uses_input any_below word_bits
uses_first = refl

-- one that is 1 if an odd number of in_0, in_1 and in_3 is 1
uses_three : uses 39270 ≡ true ∷ true ∷ false ∷ true ∷ []
unfolding uses_input any_below word_bits
uses_three = refl

-- one that is 1 if all inputs are 1: one entry differs from its neighbours
uses_each : uses 32768 ≡ true ∷ true ∷ true ∷ true ∷ []
unfolding uses_input any_below word_bits
uses_each = refl

-- one that is always 0, and one that is always 1
uses_none : uses 0 ≡ false ∷ false ∷ false ∷ false ∷ []
unfolding uses_input any_below word_bits
uses_none = refl

uses_none_too : uses 65535 ≡ false ∷ false ∷ false ∷ false ∷ []
unfolding uses_input any_below word_bits
uses_none_too = refl

-- the nets that it reads
reads_three : reads_of 39270 ≡ 0 ∷ 1 ∷ 3 ∷ []
unfolding uses_input any_below word_bits nets_read
reads_three = refl

reads_each : reads_of 32768 ≡ 0 ∷ 1 ∷ 2 ∷ 3 ∷ []
unfolding uses_input any_below word_bits nets_read
reads_each = refl

reads_none : reads_of 0 ≡ []
unfolding uses_input any_below word_bits nets_read
reads_none = refl

-- an input that isn't used is none in the table, and the value is the same
unused_value : lut_value (λ net. true) nothing_kept [] (λ net. (net == 0) || (net == 2)) (table_of read.Used (cell_with_lut 39270)) ≡ true
unfolding uses_input any_below word_bits lut_value
unused_value = refl

-- a synchronous reset doesn't act if the clock enable is 0
reset_disabled : next_bit (λ net. true) nothing_kept [] (λ net. net == 6) (register_with false) false ≡ false
unfolding image_with digits word_bits word_of bytes_of blank flat rows_of row_from rows_from kind_of start_in standard_widths standard_side_columns standard_pad_columns standard_pad_rows standard_banks place_of word_place_of any_below least_below last_below first_below gathered_below net_at names_of_net function_place extra_place input_of pad_of are_set is_link_on is_function_on is_any_on is_extra_on over_grid is_read cell_places cell_bits entry_bits cell_with cells_at cells_of register_of registers_of pin_register pin_registers_of sets_of is_ram_used ram_at rams_of start_words pintype_of pin_with pins_of pin_places global_nets globals_of is_refused_with is_joined class_of numbered_from joins_of buffers_of fabric_with drives_of drivers_of is_driven nets_read lut_value settled_bit value_of next_bit written shown next_words next_register state_after settled_state outputs_of output_values wiring_of clocked_wiring clocks_of_value has leads_below is_on_cycle turn_at pass_of is_at_open end_within clock_end clock_class users_of device_faults pll_tiles pll_tile pll_sources pll_ports pin_faults cascade_faults driver_faults loop_faults clock_faults pins_fault rams_fault fabric_fault design_fault
reset_disabled = refl

-- it acts if the clock enable has no driver
reset_enabled : next_bit (λ net. not (net == 5)) nothing_kept [] (λ net. net == 6) (register_with false) false ≡ true
unfolding image_with digits word_bits word_of bytes_of blank flat rows_of row_from rows_from kind_of start_in standard_widths standard_side_columns standard_pad_columns standard_pad_rows standard_banks place_of word_place_of any_below least_below last_below first_below gathered_below net_at names_of_net function_place extra_place input_of pad_of are_set is_link_on is_function_on is_any_on is_extra_on over_grid is_read cell_places cell_bits entry_bits cell_with cells_at cells_of register_of registers_of pin_register pin_registers_of sets_of is_ram_used ram_at rams_of start_words pintype_of pin_with pins_of pin_places global_nets globals_of is_refused_with is_joined class_of numbered_from joins_of buffers_of fabric_with drives_of drivers_of is_driven nets_read lut_value settled_bit value_of next_bit written shown next_words next_register state_after settled_state outputs_of output_values wiring_of clocked_wiring clocks_of_value has leads_below is_on_cycle turn_at pass_of is_at_open end_within clock_end clock_class users_of device_faults pll_tiles pll_tile pll_sources pll_ports pin_faults cascade_faults driver_faults loop_faults clock_faults pins_fault rams_fault fabric_fault design_fault
reset_enabled = refl

-- one that acts at once goes before the enable
reset_first : next_bit (λ net. true) nothing_kept [] (λ net. net == 6) (register_with true) false ≡ true
unfolding register_of nets_read lut_value word_bits settled_bit value_of next_bit
reset_first = refl

-- without the reset the enable counts
enable_second : next_bit (λ net. true) nothing_kept [] (λ net. false) (register_with true) true ≡ true
unfolding register_of nets_read lut_value word_bits settled_bit value_of next_bit
enable_second = refl

-- a register has its set bit as long as a reset that acts at once is 1
reset_held : value_of (λ net. true) nothing_kept [] (λ net. net == 6) (register_bit 0 (register_with true)) ≡ true
unfolding register_of nets_read lut_value word_bits settled_bit value_of next_bit
reset_held = refl

-- a reset that waits for the clock, or that nothing drives, leaves it as it is
reset_waits : value_of (λ net. true) nothing_kept [] (λ net. net == 6) (register_bit 0 (register_with false)) ≡ false
unfolding register_of nets_read lut_value word_bits settled_bit value_of next_bit
reset_waits = refl

reset_undriven : value_of (λ net. false) nothing_kept [] (λ net. true) (register_bit 0 (register_with true)) ≡ false
unfolding register_of nets_read lut_value word_bits settled_bit value_of next_bit
reset_undriven = refl

-- only a reset that acts at once is read
reset_read : nets_read (register_bit 0 (register_with true)) ≡ 6 ∷ []
unfolding register_of nets_read lut_value word_bits settled_bit value_of next_bit
reset_read = refl

reset_unread : nets_read (register_bit 0 (register_with false)) ≡ []
unfolding register_of nets_read lut_value word_bits settled_bit value_of next_bit
reset_unread = refl

-- a toggle at a falling edge
toggle_step : state_after (fabric_of database_b (both (at 1 1 0 45 ∷ at 1 1 3 0 ∷ at 1 1 5 0 ∷ at 1 1 6 0 ∷ []))) (true ∷ []) (record { bits = false ∷ []; reads = []; words = [] }) (bit_in (true ∷ false ∷ false ∷ false ∷ true ∷ [])) (event_edges (fabric_of database_b (both (at 1 1 0 45 ∷ at 1 1 3 0 ∷ at 1 1 5 0 ∷ at 1 1 6 0 ∷ []))) (bit_in (true ∷ false ∷ false ∷ false ∷ true ∷ [])) (bit_in (false ∷ false ∷ false ∷ false ∷ false ∷ []))) ≡ record { bits = true ∷ []; reads = []; words = [] }
unfolding database_a database_b image_with digits word_bits word_of bytes_of blank flat rows_of row_from rows_from kind_of start_in standard_widths standard_side_columns standard_pad_columns standard_pad_rows standard_banks place_of word_place_of any_below least_below last_below first_below gathered_below net_at names_of_net function_place extra_place input_of pad_of are_set is_link_on is_function_on is_any_on is_extra_on over_grid is_read cell_places cell_bits entry_bits cell_with cells_at cells_of register_of registers_of pin_register pin_registers_of sets_of is_ram_used ram_at rams_of start_words pintype_of pin_with pins_of pin_places global_nets globals_of is_refused_with is_joined class_of numbered_from joins_of buffers_of fabric_with drives_of drivers_of is_driven nets_read lut_value settled_bit value_of next_bit written shown next_words next_register state_after settled_state outputs_of output_values wiring_of clocked_wiring clocks_of_value has leads_below is_on_cycle turn_at pass_of is_at_open end_within clock_end clock_class users_of device_faults pll_tiles pll_tile pll_sources pll_ports pin_faults cascade_faults driver_faults loop_faults clock_faults pins_fault rams_fault fabric_fault design_fault
toggle_step = refl

-- and none at a rising one
toggle_stays : state_after (fabric_of database_b (both (at 1 1 0 45 ∷ at 1 1 3 0 ∷ at 1 1 5 0 ∷ at 1 1 6 0 ∷ []))) (false ∷ []) (record { bits = false ∷ []; reads = []; words = [] }) (bit_in (false ∷ false ∷ false ∷ false ∷ false ∷ [])) (event_edges (fabric_of database_b (both (at 1 1 0 45 ∷ at 1 1 3 0 ∷ at 1 1 5 0 ∷ at 1 1 6 0 ∷ []))) (bit_in (false ∷ false ∷ false ∷ false ∷ false ∷ [])) (bit_in (true ∷ false ∷ false ∷ false ∷ true ∷ []))) ≡ record { bits = false ∷ []; reads = []; words = [] }
unfolding database_a database_b image_with digits word_bits word_of bytes_of blank flat rows_of row_from rows_from kind_of start_in standard_widths standard_side_columns standard_pad_columns standard_pad_rows standard_banks place_of word_place_of any_below least_below last_below first_below gathered_below net_at names_of_net function_place extra_place input_of pad_of are_set is_link_on is_function_on is_any_on is_extra_on over_grid is_read cell_places cell_bits entry_bits cell_with cells_at cells_of register_of registers_of pin_register pin_registers_of sets_of is_ram_used ram_at rams_of start_words pintype_of pin_with pins_of pin_places global_nets globals_of is_refused_with is_joined class_of numbered_from joins_of buffers_of fabric_with drives_of drivers_of is_driven nets_read lut_value settled_bit value_of next_bit written shown next_words next_register state_after settled_state outputs_of output_values wiring_of clocked_wiring clocks_of_value has leads_below is_on_cycle turn_at pass_of is_at_open end_within clock_end clock_class users_of device_faults pll_tiles pll_tile pll_sources pll_ports pin_faults cascade_faults driver_faults loop_faults clock_faults pins_fault rams_fault fabric_fault design_fault
toggle_stays = refl

-- a word 1234 written with ABCD under the mask 00FF is AB34: net 16 + b has bit b of the data, net 32 + b that of the mask
masked_write : written (λ net. true) (bit_in (false ∷ false ∷ false ∷ false ∷ false ∷ false ∷ false ∷ false ∷ false ∷ false ∷ false ∷ false ∷ false ∷ false ∷ false ∷ false ∷ true ∷ false ∷ true ∷ true ∷ false ∷ false ∷ true ∷ true ∷ true ∷ true ∷ false ∷ true ∷ false ∷ true ∷ false ∷ true ∷ true ∷ true ∷ true ∷ true ∷ true ∷ true ∷ true ∷ true ∷ false ∷ false ∷ false ∷ false ∷ false ∷ false ∷ false ∷ false ∷ [])) ram_with_nets (false ∷ false ∷ true ∷ false ∷ true ∷ true ∷ false ∷ false ∷ false ∷ true ∷ false ∷ false ∷ true ∷ false ∷ false ∷ false ∷ []) ≡ false ∷ false ∷ true ∷ false ∷ true ∷ true ∷ false ∷ false ∷ true ∷ true ∷ false ∷ true ∷ false ∷ true ∷ false ∷ true ∷ []
unfolding image_with digits word_bits word_of bytes_of blank flat rows_of row_from rows_from kind_of start_in standard_widths standard_side_columns standard_pad_columns standard_pad_rows standard_banks place_of word_place_of any_below least_below last_below first_below gathered_below net_at names_of_net function_place extra_place input_of pad_of are_set is_link_on is_function_on is_any_on is_extra_on over_grid is_read cell_places cell_bits entry_bits cell_with cells_at cells_of register_of registers_of pin_register pin_registers_of sets_of is_ram_used ram_at rams_of start_words pintype_of pin_with pins_of pin_places global_nets globals_of is_refused_with is_joined class_of numbered_from joins_of buffers_of fabric_with drives_of drivers_of is_driven nets_read lut_value settled_bit value_of next_bit written shown next_words next_register state_after settled_state outputs_of output_values wiring_of clocked_wiring clocks_of_value has leads_below is_on_cycle turn_at pass_of is_at_open end_within clock_end clock_class users_of device_faults pll_tiles pll_tile pll_sources pll_ports pin_faults cascade_faults driver_faults loop_faults clock_faults pins_fault rams_fault fabric_fault design_fault
masked_write = refl

-- a RAM with nets 48 to 58 as addresses at both ports, written in mode 1 and read in a mode
abbrev narrow_ram : ℕ → RamCell
narrow_ram mode = record ram_with_nets { read = mode; write = 1; waddr = each_below 11 (λ k. Some (48 + k)); raddr = each_below 11 (λ k. Some (48 + k)) }

-- a word 1234 in which A5 is written as the narrow word of high part 1 is 9836: A5 stands at every second bit of the data
narrow_write : written (λ net. true) (has (16 ∷ 20 ∷ 26 ∷ 30 ∷ 56 ∷ [])) (narrow_ram 0) (false ∷ false ∷ true ∷ false ∷ true ∷ true ∷ false ∷ false ∷ false ∷ true ∷ false ∷ false ∷ true ∷ false ∷ false ∷ false ∷ [])
    ≡ false ∷ true ∷ true ∷ false ∷ true ∷ true ∷ false ∷ false ∷ false ∷ false ∷ false ∷ true ∷ true ∷ false ∷ false ∷ true ∷ []
unfolding image_with digits word_bits word_of bytes_of blank flat rows_of row_from rows_from kind_of start_in standard_widths standard_side_columns standard_pad_columns standard_pad_rows standard_banks place_of word_place_of any_below least_below last_below first_below gathered_below net_at names_of_net function_place extra_place input_of pad_of are_set is_link_on is_function_on is_any_on is_extra_on over_grid is_read cell_places cell_bits entry_bits cell_with cells_at cells_of register_of registers_of pin_register pin_registers_of sets_of is_ram_used ram_at rams_of start_words pintype_of pin_with pins_of pin_places global_nets globals_of is_refused_with is_joined class_of numbered_from joins_of buffers_of fabric_with drives_of drivers_of is_driven nets_read lut_value settled_bit value_of next_bit written shown next_words next_register state_after settled_state outputs_of output_values wiring_of clocked_wiring clocks_of_value has leads_below is_on_cycle turn_at pass_of is_at_open end_within clock_end clock_class users_of device_faults pll_tiles pll_tile pll_sources pll_ports pin_faults cascade_faults driver_faults loop_faults clock_faults pins_fault rams_fault fabric_fault design_fault
narrow_write = refl

-- read in mode 2 at high part 3 it shows 1100, which is read at the bits 9 and 13
narrow_read : shown (λ net. true) (has (56 ∷ 57 ∷ [])) (narrow_ram 2) (false ∷ true ∷ true ∷ false ∷ true ∷ true ∷ false ∷ false ∷ false ∷ false ∷ false ∷ true ∷ true ∷ false ∷ false ∷ true ∷ [])
    ≡ false ∷ false ∷ false ∷ false ∷ false ∷ false ∷ false ∷ false ∷ true ∷ false ∷ false ∷ false ∷ true ∷ false ∷ false ∷ false ∷ []
unfolding image_with digits word_bits word_of bytes_of blank flat rows_of row_from rows_from kind_of start_in standard_widths standard_side_columns standard_pad_columns standard_pad_rows standard_banks place_of word_place_of any_below least_below last_below first_below gathered_below net_at names_of_net function_place extra_place input_of pad_of are_set is_link_on is_function_on is_any_on is_extra_on over_grid is_read cell_places cell_bits entry_bits cell_with cells_at cells_of register_of registers_of pin_register pin_registers_of sets_of is_ram_used ram_at rams_of start_words pintype_of pin_with pins_of pin_places global_nets globals_of is_refused_with is_joined class_of numbered_from joins_of buffers_of fabric_with drives_of drivers_of is_driven nets_read lut_value settled_bit value_of next_bit written shown next_words next_register state_after settled_state outputs_of output_values wiring_of clocked_wiring clocks_of_value has leads_below is_on_cycle turn_at pass_of is_at_open end_within clock_end clock_class users_of device_faults pll_tiles pll_tile pll_sources pll_ports pin_faults cascade_faults driver_faults loop_faults clock_faults pins_fault rams_fault fabric_fault design_fault
narrow_read = refl

narrow_bits : map (read_data_rule 0 2) (8 ∷ 9 ∷ 13 ∷ []) ≡ constant false ∷ read_bit 0 8 ∷ read_bit 0 12 ∷ []
narrow_bits = refl

-- and in mode 3 at high part 7 0100, which is read at bit 11
narrowest_read : shown (λ net. true) (has (56 ∷ 57 ∷ 58 ∷ [])) (narrow_ram 3) (false ∷ true ∷ true ∷ false ∷ true ∷ true ∷ false ∷ false ∷ false ∷ false ∷ false ∷ true ∷ true ∷ false ∷ false ∷ true ∷ [])
    ≡ false ∷ false ∷ false ∷ false ∷ false ∷ false ∷ false ∷ false ∷ true ∷ false ∷ false ∷ false ∷ false ∷ false ∷ false ∷ false ∷ []
unfolding image_with digits word_bits word_of bytes_of blank flat rows_of row_from rows_from kind_of start_in standard_widths standard_side_columns standard_pad_columns standard_pad_rows standard_banks place_of word_place_of any_below least_below last_below first_below gathered_below net_at names_of_net function_place extra_place input_of pad_of are_set is_link_on is_function_on is_any_on is_extra_on over_grid is_read cell_places cell_bits entry_bits cell_with cells_at cells_of register_of registers_of pin_register pin_registers_of sets_of is_ram_used ram_at rams_of start_words pintype_of pin_with pins_of pin_places global_nets globals_of is_refused_with is_joined class_of numbered_from joins_of buffers_of fabric_with drives_of drivers_of is_driven nets_read lut_value settled_bit value_of next_bit written shown next_words next_register state_after settled_state outputs_of output_values wiring_of clocked_wiring clocks_of_value has leads_below is_on_cycle turn_at pass_of is_at_open end_within clock_end clock_class users_of device_faults pll_tiles pll_tile pll_sources pll_ports pin_faults cascade_faults driver_faults loop_faults clock_faults pins_fault rams_fault fabric_fault design_fault
narrowest_read = refl

narrowest_bits : map (read_data_rule 0 3) (0 ∷ 3 ∷ 11 ∷ []) ≡ constant false ∷ read_bit 0 0 ∷ read_bit 0 8 ∷ []
narrowest_bits = refl

-- a carry chain: the carry out of a cell whose inputs are 0 and 1 and whose carry in is set
carried : value_of (λ net. true) nothing_kept [] (λ net. not (net == 1)) (majority_of (Some 1) (Some 2) (Some 7)) ≡ true
unfolding image_with digits word_bits word_of bytes_of blank flat rows_of row_from rows_from kind_of start_in standard_widths standard_side_columns standard_pad_columns standard_pad_rows standard_banks place_of word_place_of any_below least_below last_below first_below gathered_below net_at names_of_net function_place extra_place input_of pad_of are_set is_link_on is_function_on is_any_on is_extra_on over_grid is_read cell_places cell_bits entry_bits cell_with cells_at cells_of register_of registers_of pin_register pin_registers_of sets_of is_ram_used ram_at rams_of start_words pintype_of pin_with pins_of pin_places global_nets globals_of is_refused_with is_joined class_of numbered_from joins_of buffers_of fabric_with drives_of drivers_of is_driven nets_read lut_value settled_bit value_of next_bit written shown next_words next_register state_after settled_state outputs_of output_values wiring_of clocked_wiring clocks_of_value has leads_below is_on_cycle turn_at pass_of is_at_open end_within clock_end clock_class users_of device_faults pll_tiles pll_tile pll_sources pll_ports pin_faults cascade_faults driver_faults loop_faults clock_faults pins_fault rams_fault fabric_fault design_fault
carried = refl

-- ---- what a LUT does to a clock

-- the table 5555 inverts in_0
inverted_pass : pass_of (λ net. true) (record { word = 21845; ins = net_or_0 (Some 5) ∷ net_or_0 None ∷ net_or_0 None ∷ net_or_0 None ∷ [] }) ≡ follows true 5
unfolding pass_of is_at_open any_below word_bits
inverted_pass = refl

-- so does 0001, if the other inputs have no nets: only entries 0 and 1 can occur
short_pass : pass_of (λ net. true) (record { word = 1; ins = net_or_0 (Some 5) ∷ net_or_0 None ∷ net_or_0 None ∷ net_or_0 None ∷ [] }) ≡ follows true 5
unfolding pass_of is_at_open any_below word_bits
short_pass = refl

-- 0002 passes in_0 on
upright_pass : pass_of (λ net. true) (record { word = 2; ins = net_or_0 (Some 5) ∷ net_or_0 None ∷ net_or_0 None ∷ net_or_0 None ∷ [] }) ≡ follows false 5
unfolding pass_of is_at_open any_below word_bits
upright_pass = refl

-- 0004 passes in_1 on if that alone is connected, although the word uses all four inputs
odd_pass : pass_of (λ net. true) (record { word = 4; ins = net_or_0 None ∷ net_or_0 (Some 7) ∷ net_or_0 None ∷ net_or_0 None ∷ [] }) ≡ follows false 7
unfolding pass_of is_at_open any_below word_bits
odd_pass = refl

-- an input whose net has no driver is unconnected too
undriven_pass : pass_of (λ net. net == 7) (record { word = 4; ins = net_or_0 (Some 5) ∷ net_or_0 (Some 7) ∷ net_or_0 None ∷ net_or_0 None ∷ [] }) ≡ follows false 7
unfolding pass_of is_at_open any_below word_bits
undriven_pass = refl

-- with both connected 0004 is neither
mixed_pass : pass_of (λ net. true) (record { word = 4; ins = net_or_0 (Some 5) ∷ net_or_0 (Some 7) ∷ net_or_0 None ∷ net_or_0 None ∷ [] }) ≡ mixes
unfolding pass_of is_at_open any_below word_bits
mixed_pass = refl

-- 0008 is always 0 if in_0 alone is connected
held_pass : pass_of (λ net. true) (record { word = 8; ins = net_or_0 (Some 5) ∷ net_or_0 None ∷ net_or_0 None ∷ net_or_0 None ∷ [] }) ≡ holds false
unfolding pass_of is_at_open any_below word_bits
held_pass = refl

-- FFFF is always 1
set_pass : pass_of (λ net. true) (record { word = 65535; ins = net_or_0 (Some 5) ∷ net_or_0 None ∷ net_or_0 None ∷ net_or_0 None ∷ [] }) ≡ holds true
unfolding pass_of is_at_open any_below word_bits
set_pass = refl

-- a chain that is turned twice is upright
turned_back : turned_end true (turned_end true (at_pin 0 false)) ≡ at_pin 0 false
turned_back = refl

-- the inverse of a clock that is always 0 is always 1
turned_still : turned_end true (still false) ≡ still true
turned_still = refl
