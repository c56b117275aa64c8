-- The written modules of small fabrics, worked out by hand.
use Rattle.std.proofs.Common.{◌≡◌, List, [], ◌∷◌, ◌++◌, refl, true, false}
use Rattle.std.specs.Prelude.{codes, Some, None, replicate}
use Rattle.std.specs.Fmt.{digits}
use Rattle.index_search.specs.Places.{any_below, least_below, gathered_below}
use Rattle.bit_plane.specs.BitList.{word_bits, word_of}
use Rattle.vlog_module.specs.declared.atoms.Atom.TheVariants.{Bit, Whole}
use Rattle.vlog_module.specs.declared.item.Item.TheVariants.{Register as RegisterItem, Wire, Assign, FlipFlop, AsyncFlipFlop, AsyncReset, Read, ReadNarrow, Write, WriteNarrow}
use Rattle.vlog_module.specs.declared.item.Right.TheVariants.{Whole as RightWhole, Lut as RightLut, Choose}
use Rattle.fabric_model.specs.declared.cell.LogicCell.{LogicCell}
use Rattle.fabric_model.specs.declared.lut_inputs.LutInputs.TheVariants as read
use Rattle.fabric_model.specs.declared.ram.RamCell.{RamCell}
use Rattle.fabric_model.specs.declared.pin.Pin.{Pin}
use Rattle.fabric_model.specs.declared.pin.PadDrive.TheVariants as drive
use Rattle.fabric_model.specs.declared.pin.PadData.TheVariants as sends
use Rattle.fabric_model.specs.declared.pin.PadInput.TheVariants as takes
use Rattle.fabric_model.specs.Outputs.{outputs_of}
use Rattle.fabric_model.specs.Luts.{uses_input}
use Rattle.fabric_model.specs.Registers.{register_of, pin_register, pin_registers_of}
use Rattle.fabric_model.specs.Fabric.{Fabric, numbered_from}
use Rattle.fabric_model.specs.Joins.{is_joined, class_of}
use Rattle.fabric_model.specs.Drivers.{drives_of, drivers_of, is_driven}
use Rattle.fabric_model.specs.ClockLuts.{pass_of, is_at_open}
use Rattle.fabric_model.specs.Clocks.{turn_at, end_within, clock_end}
use Rattle.fabric_module.specs.Names.{two_numbers, three_numbers, pad_name, port_name, enable_name, outside_name, register_name, read_name, memory_name, wire_name}
use Rattle.fabric_module.specs.Rights.{input_atom, right_of, class_right}
use Rattle.fabric_module.specs.Written.{clock_name, is_falling, register_items, write_items, read_items, items_of, module_of}

-- ---- an inverter between two pins

abbrev input_pin : Pin
input_pin = record {
  x = 0;
  y = 1;
  n = 0;
  drive = drive.Never;
  sends = sends.Double;
  takes = takes.Plain;
  reads_0 = true;
  reads_1 = false;
  is_global = false;
  neg = false;
  inclk = None;
  outclk = None;
  cen = None;
  din_0 = Some 0;
  din_1 = None;
  dout_0 = None;
  dout_1 = None;
  enable = None;
  data_net = None;
  pad_net = None;
}

abbrev output_pin : Pin
output_pin = record input_pin { y = 2; drive = drive.Always; sends = sends.Plain; reads_0 = false; din_0 = None; dout_0 = Some 3 }

abbrev inverter : LogicCell
inverter = record {
  x = 1;
  y = 1;
  i = 0;
  lut = 21845;
  carry = false;
  flip = false;
  «set» = false;
  is_async = false;
  neg = false;
  ins = Some 1 ∷ None ∷ None ∷ None ∷ [];
  out = Some 2;
  lout = None;
  cout = None;
  cin = None;
  clk = None;
  cen = None;
  sr = None;
}

abbrev inverting : Fabric
inverting = record {
  nets = 4;
  joins = [];
  buffers = record { line = 0; src = 0; dst = 1 } ∷ record { line = 1; src = 2; dst = 3 } ∷ [];
  pins = input_pin ∷ output_pin ∷ [];
  plls = [];
  globals = [];
  lut_inputs = read.All;
  register_clocks = false;
  lcs = inverter ∷ [];
  registers = [];
  sets = [];
  rams = [];
  start = [];
}

inverting_module : module_of inverting (0 ∷ 1 ∷ 2 ∷ 3 ∷ []) (codes "top") ≡ record {
  name = codes "top";
  ports = record { name = codes "io_0_1_0"; output = false } ∷ record { name = codes "io_0_2_0"; output = true } ∷ [];
  items =
      Wire (codes "n_0") (RightWhole (codes "io_0_1_0"))
      ∷ Wire (codes "n_1") (RightWhole (codes "n_0"))
      ∷ Wire (codes "n_2") (RightLut (record { word = 21845; ins = Whole (codes "n_1") ∷ Bit false ∷ Bit false ∷ Bit false ∷ [] }))
      ∷ Wire (codes "n_3") (RightWhole (codes "n_2"))
      ∷ Assign (codes "io_0_2_0") (Whole (codes "n_3"))
      ∷ [];
}
unfolding outputs_of digits any_below least_below gathered_below word_of register_of numbered_from is_joined class_of drives_of drivers_of is_driven turn_at pass_of is_at_open end_within clock_end two_numbers three_numbers pad_name register_name read_name memory_name wire_name input_atom right_of class_right clock_name is_falling items_of module_of
inverting_module = refl

-- ---- the same LUT with its own value at in_2, which it doesn't use

abbrev feeding : LogicCell
feeding = record inverter { ins = Some 1 ∷ None ∷ Some 2 ∷ None ∷ [] }

all_written : class_right (record inverting { lcs = feeding ∷ [] }) 2
    ≡ RightLut (record { word = 21845; ins = Whole (codes "n_1") ∷ Bit false ∷ Whole (codes "n_2") ∷ Bit false ∷ [] })
unfolding outputs_of digits any_below least_below gathered_below word_of register_of numbered_from is_joined class_of drives_of drivers_of is_driven turn_at pass_of is_at_open end_within clock_end two_numbers three_numbers pad_name register_name read_name memory_name wire_name input_atom right_of class_right clock_name is_falling items_of module_of
all_written = refl

used_written : class_right (record inverting { lut_inputs = read.Used; lcs = feeding ∷ [] }) 2
    ≡ RightLut (record { word = 21845; ins = Whole (codes "n_1") ∷ Bit false ∷ Bit false ∷ Bit false ∷ [] })
unfolding uses_input word_bits outputs_of digits any_below least_below gathered_below word_of register_of numbered_from is_joined class_of drives_of drivers_of is_driven turn_at pass_of is_at_open end_within clock_end two_numbers three_numbers pad_name register_name read_name memory_name wire_name input_atom right_of class_right clock_name is_falling items_of module_of
used_written = refl

used_module : module_of (record inverting { lut_inputs = read.Used; lcs = feeding ∷ [] }) (0 ∷ 1 ∷ 2 ∷ 3 ∷ []) (codes "top") ≡ module_of inverting (0 ∷ 1 ∷ 2 ∷ 3 ∷ []) (codes "top")
unfolding uses_input word_bits outputs_of digits any_below least_below gathered_below word_of register_of numbered_from is_joined class_of drives_of drivers_of is_driven turn_at pass_of is_at_open end_within clock_end two_numbers three_numbers pad_name register_name read_name memory_name wire_name input_atom right_of class_right clock_name is_falling items_of module_of
used_module = refl

-- ---- a toggle at falling edges

abbrev toggle : LogicCell
toggle = record inverter { flip = true; neg = true; ins = Some 2 ∷ None ∷ None ∷ None ∷ []; clk = Some 1 }

abbrev toggling : Fabric
toggling = record inverting { lcs = toggle ∷ []; registers = register_of read.All toggle ∷ [] }

toggle_items : register_items toggling (register_of read.All toggle) ≡
    FlipFlop true (codes "io_0_1_0") (Bit true) (Bit false) false (codes "ff_1_1_0")
    (record { word = 21845; ins = Whole (codes "n_2") ∷ Bit false ∷ Bit false ∷ Bit false ∷ [] }) ∷ []
unfolding outputs_of digits any_below least_below gathered_below word_of register_of numbered_from is_joined class_of drives_of drivers_of is_driven turn_at pass_of is_at_open end_within clock_end two_numbers three_numbers pad_name register_name read_name memory_name wire_name input_atom right_of class_right clock_name is_falling items_of module_of
toggle_items = refl

-- what its LUT doesn't use is 0 too
used_items : register_items toggling (register_of read.Used (record toggle { ins = Some 2 ∷ Some 0 ∷ Some 1 ∷ Some 3 ∷ [] })) ≡
    FlipFlop true (codes "io_0_1_0") (Bit true) (Bit false) false (codes "ff_1_1_0")
    (record { word = 21845; ins = Whole (codes "n_2") ∷ Bit false ∷ Bit false ∷ Bit false ∷ [] }) ∷ []
unfolding uses_input word_bits outputs_of digits any_below least_below gathered_below word_of register_of numbered_from is_joined class_of drives_of drivers_of is_driven turn_at pass_of is_at_open end_within clock_end two_numbers three_numbers pad_name register_name read_name memory_name wire_name input_atom right_of class_right clock_name is_falling items_of module_of
used_items = refl

-- a clock without a driver is written nowhere
still_items : register_items toggling (register_of read.All (record toggle { clk = Some 9 })) ≡ []
unfolding outputs_of digits any_below least_below gathered_below word_of register_of numbered_from is_joined class_of drives_of drivers_of is_driven turn_at pass_of is_at_open end_within clock_end two_numbers three_numbers pad_name register_name read_name memory_name wire_name input_atom right_of class_right clock_name is_falling items_of module_of
still_items = refl

-- ---- a toggle whose reset acts at once

abbrev setting : LogicCell
setting = record toggle { «set» = true; is_async = true; sr = Some 0 }

abbrev resetting : Fabric
resetting = record inverting { lcs = setting ∷ []; registers = register_of read.All setting ∷ [] }

setting_items : register_items resetting (register_of read.All setting) ≡
    AsyncFlipFlop true (codes "io_0_1_0") (codes "n_0") true (codes "ff_1_1_0") (Bit true)
    (record { word = 21845; ins = Whole (codes "n_2") ∷ Bit false ∷ Bit false ∷ Bit false ∷ [] }) ∷ []
unfolding outputs_of digits any_below least_below gathered_below word_of register_of numbered_from is_joined class_of drives_of drivers_of is_driven turn_at pass_of is_at_open end_within clock_end two_numbers three_numbers pad_name register_name read_name memory_name wire_name input_atom right_of class_right clock_name is_falling items_of module_of
setting_items = refl

setting_wires : class_right resetting 2 ≡ Choose (codes "n_0") true (codes "ff_1_1_0")
unfolding outputs_of digits any_below least_below gathered_below word_of register_of numbered_from is_joined class_of drives_of drivers_of is_driven turn_at pass_of is_at_open end_within clock_end two_numbers three_numbers pad_name register_name read_name memory_name wire_name input_atom right_of class_right clock_name is_falling items_of module_of
setting_wires = refl

-- without a clock it is set alone
clockless_items : register_items resetting (register_of read.All (record setting { clk = None })) ≡ AsyncReset (codes "n_0") true (codes "ff_1_1_0") ∷ []
unfolding outputs_of digits any_below least_below gathered_below word_of register_of numbered_from is_joined class_of drives_of drivers_of is_driven turn_at pass_of is_at_open end_within clock_end two_numbers three_numbers pad_name register_name read_name memory_name wire_name input_atom right_of class_right clock_name is_falling items_of module_of
clockless_items = refl

-- a reset without a driver never acts
undriven_items : register_items resetting (register_of read.All (record setting { sr = Some 9 })) ≡
    FlipFlop true (codes "io_0_1_0") (Bit true) (Bit false) true (codes "ff_1_1_0")
    (record { word = 21845; ins = Whole (codes "n_2") ∷ Bit false ∷ Bit false ∷ Bit false ∷ [] }) ∷ []
unfolding outputs_of digits any_below least_below gathered_below word_of register_of numbered_from is_joined class_of drives_of drivers_of is_driven turn_at pass_of is_at_open end_within clock_end two_numbers three_numbers pad_name register_name read_name memory_name wire_name input_atom right_of class_right clock_name is_falling items_of module_of
undriven_items = refl

-- ---- a toggle whose clock is the first one, by a buffer or by an inverter

abbrev divider : LogicCell
divider = record toggle { x = 2; ins = Some 1 ∷ None ∷ None ∷ None ∷ []; out = None; clk = Some 3 }

abbrev turner : LogicCell
turner = record inverter { x = 3; ins = Some 2 ∷ None ∷ None ∷ None ∷ []; out = Some 4 }

abbrev dividing : Fabric
dividing = record inverting {
  nets = 5;
  register_clocks = true;
  lcs = toggle ∷ divider ∷ turner ∷ [];
  registers = register_of read.All toggle ∷ register_of read.All divider ∷ [];
}

divider_items : register_items dividing (register_of read.All divider) ≡
    FlipFlop true (codes "ff_1_1_0") (Bit true) (Bit false) false (codes "ff_2_1_0")
    (record { word = 21845; ins = Whole (codes "n_1") ∷ Bit false ∷ Bit false ∷ Bit false ∷ [] }) ∷ []
unfolding outputs_of digits any_below least_below gathered_below word_of register_of numbered_from is_joined class_of drives_of drivers_of is_driven turn_at pass_of is_at_open end_within clock_end two_numbers three_numbers pad_name register_name read_name memory_name wire_name input_atom right_of class_right clock_name is_falling items_of module_of
divider_items = refl

turned_items : register_items dividing (register_of read.All (record divider { clk = Some 4 })) ≡
    FlipFlop false (codes "ff_1_1_0") (Bit true) (Bit false) false (codes "ff_2_1_0")
    (record { word = 21845; ins = Whole (codes "n_1") ∷ Bit false ∷ Bit false ∷ Bit false ∷ [] }) ∷ []
unfolding outputs_of digits any_below least_below gathered_below word_of register_of numbered_from is_joined class_of drives_of drivers_of is_driven turn_at pass_of is_at_open end_within clock_end two_numbers three_numbers pad_name register_name read_name memory_name wire_name input_atom right_of class_right clock_name is_falling items_of module_of word_bits
turned_items = refl

-- ---- a RAM

abbrev ram : RamCell
ram = record {
  x = 3;
  y = 1;
  read = 0;
  write = 0;
  wneg = true;
  rneg = false;
  rdata = replicate 16 None;
  wdata = Some 2 ∷ replicate 15 None;
  mask = replicate 16 None;
  waddr = replicate 11 None;
  raddr = Some 2 ∷ replicate 10 None;
  wclk = Some 1;
  wclke = None;
  we = Some 2;
  rclk = Some 1;
  rclke = Some 9;
  re = Some 2;
}

write : write_items inverting ram ≡
    Write true (codes "io_0_1_0") (Bit true) (Whole (codes "n_2")) (codes "mem_3_1") (replicate 8 (Bit false)) (replicate 16 (Bit false))
    (Whole (codes "n_2") ∷ replicate 15 (Bit false)) ∷ []
unfolding outputs_of digits any_below least_below gathered_below word_of register_of numbered_from is_joined class_of drives_of drivers_of is_driven turn_at pass_of is_at_open end_within clock_end two_numbers three_numbers pad_name register_name read_name memory_name wire_name input_atom right_of class_right clock_name is_falling items_of module_of
write = refl

wide_read : read_items inverting ram ≡
    Read false (codes "io_0_1_0") (Bit true) (Whole (codes "n_2")) (codes "rd_3_1") (codes "mem_3_1") (Whole (codes "n_2") ∷ replicate 7 (Bit false)) ∷ []
unfolding outputs_of digits any_below least_below gathered_below word_of register_of numbered_from is_joined class_of drives_of drivers_of is_driven turn_at pass_of is_at_open end_within clock_end two_numbers three_numbers pad_name register_name read_name memory_name wire_name input_atom right_of class_right clock_name is_falling items_of module_of
wide_read = refl

-- ---- a RAM that is read in mode 2 and written in mode 1

abbrev narrow : RamCell
narrow = record ram {
  read = 2;
  write = 1;
  wdata = Some 2 ∷ replicate 15 None;
  waddr = replicate 8 None ++ Some 2 ∷ Some 2 ∷ Some 2 ∷ [];
  raddr = Some 2 ∷ replicate 7 None ++ Some 2 ∷ None ∷ Some 2 ∷ [];
}

narrow_write : write_items inverting narrow ≡
    WriteNarrow true (codes "io_0_1_0") (Bit true) (Whole (codes "n_2")) (codes "mem_3_1") (replicate 8 (Bit false)) 21845
    (Whole (codes "n_2") ∷ Bit false ∷ Bit false ∷ []) (Whole (codes "n_2") ∷ Whole (codes "n_2") ∷ replicate 14 (Bit false)) ∷ []
unfolding outputs_of digits any_below least_below gathered_below word_of register_of numbered_from is_joined class_of drives_of drivers_of is_driven turn_at pass_of is_at_open end_within clock_end two_numbers three_numbers pad_name register_name read_name memory_name wire_name input_atom right_of class_right clock_name is_falling items_of module_of
narrow_write = refl

narrow_read : read_items inverting narrow ≡
    ReadNarrow false (codes "io_0_1_0") (Bit true) (Whole (codes "n_2")) (codes "rd_3_1") (codes "mem_3_1") (Whole (codes "n_2") ∷ replicate 7 (Bit false))
    (Whole (codes "n_2") ∷ Bit false ∷ Bit false ∷ []) 4369 ∷ []
unfolding outputs_of digits any_below least_below gathered_below word_of register_of numbered_from is_joined class_of drives_of drivers_of is_driven turn_at pass_of is_at_open end_within clock_end two_numbers three_numbers pad_name register_name read_name memory_name wire_name input_atom right_of class_right clock_name is_falling items_of module_of
narrow_read = refl

-- ---- a registered output pin, a registered input pin and an output that can be switched off

abbrev registered_output : Pin
registered_output = record output_pin { sends = sends.Registered; outclk = Some 1 }

abbrev registered_input : Pin
registered_input = record input_pin { y = 3; takes = takes.Registered; neg = true; inclk = Some 1; din_0 = Some 4 }

abbrev switched_output : Pin
switched_output = record output_pin { y = 4; drive = drive.ByNet; takes = takes.Registered; enable = Some 2 }

abbrev four_pins : List Pin
four_pins = input_pin ∷ registered_output ∷ registered_input ∷ switched_output ∷ []

abbrev registering : Fabric
registering = record inverting { nets = 5; pins = four_pins; registers = pin_registers_of 0 four_pins }

registering_module : module_of registering (0 ∷ 1 ∷ 2 ∷ 3 ∷ 4 ∷ []) (codes "top") ≡ record {
  name = codes "top";
  ports =
      record { name = codes "io_0_1_0"; output = false } ∷ record { name = codes "io_0_2_0"; output = true } ∷ record { name = codes "io_0_3_0"; output = false }
      ∷ record { name = codes "io_0_4_0"; output = true } ∷ record { name = codes "io_0_4_0_en"; output = true } ∷ [];
  items =
      RegisterItem (codes "po_0_2_0") false
      ∷ RegisterItem (codes "pi_0_3_0") false
      ∷ Wire (codes "n_0") (RightWhole (codes "io_0_1_0"))
      ∷ Wire (codes "n_1") (RightWhole (codes "n_0"))
      ∷ Wire (codes "n_2") (RightLut (record { word = 21845; ins = Whole (codes "n_1") ∷ Bit false ∷ Bit false ∷ Bit false ∷ [] }))
      ∷ Wire (codes "n_3") (RightWhole (codes "n_2"))
      ∷ Wire (codes "n_4") (RightWhole (codes "pi_0_3_0"))
      ∷ Assign (codes "io_0_2_0") (Whole (codes "po_0_2_0"))
      ∷ Assign (codes "io_0_4_0") (Whole (codes "n_3"))
      ∷ Assign (codes "io_0_4_0_en") (Whole (codes "n_2"))
      ∷ FlipFlop false (codes "io_0_1_0") (Bit true) (Bit false) false (codes "po_0_2_0") (record { word = 43690; ins = Whole (codes "n_3") ∷ Bit false ∷ Bit false ∷ Bit false ∷ [] })
      ∷ FlipFlop true (codes "io_0_1_0") (Bit true) (Bit false) false (codes "pi_0_3_0") (record { word = 43690; ins = Whole (codes "io_0_3_0") ∷ Bit false ∷ Bit false ∷ Bit false ∷ [] })
      ∷ [];
}
unfolding outputs_of digits any_below least_below gathered_below word_of register_of pin_register pin_registers_of numbered_from is_joined class_of drives_of drivers_of is_driven turn_at pass_of is_at_open end_within clock_end two_numbers three_numbers pad_name enable_name register_name read_name memory_name wire_name input_atom right_of class_right clock_name is_falling items_of module_of
registering_module = refl

-- ---- a pin with double data, and a bidirectional pin whose pad is read

abbrev double_output : Pin
double_output = record output_pin { sends = sends.Double; outclk = Some 1; dout_1 = Some 2; data_net = Some 4 }

abbrev bidirectional : Pin
bidirectional = record output_pin { y = 4; drive = drive.ByNet; reads_0 = true; din_0 = Some 5; enable = Some 2; pad_net = Some 6 }

abbrev bus_pins : List Pin
bus_pins = input_pin ∷ double_output ∷ bidirectional ∷ []

abbrev bus : Fabric
bus = record inverting { nets = 7; pins = bus_pins; registers = pin_registers_of 0 bus_pins }

bus_module : module_of bus (0 ∷ 1 ∷ 2 ∷ 3 ∷ 4 ∷ 6 ∷ 5 ∷ []) (codes "top") ≡ record {
  name = codes "top";
  ports =
      record { name = codes "io_0_1_0"; output = false } ∷ record { name = codes "io_0_2_0"; output = true } ∷ record { name = codes "io_0_4_0"; output = true }
      ∷ record { name = codes "io_0_4_0_en"; output = true } ∷ record { name = codes "io_0_4_0_in"; output = false } ∷ [];
  items =
      RegisterItem (codes "po_0_2_0") false
      ∷ RegisterItem (codes "pq_0_2_0") false
      ∷ RegisterItem (codes "co_0_2_0") false
      ∷ Wire (codes "n_0") (RightWhole (codes "io_0_1_0"))
      ∷ Wire (codes "n_1") (RightWhole (codes "n_0"))
      ∷ Wire (codes "n_2") (RightLut (record { word = 21845; ins = Whole (codes "n_1") ∷ Bit false ∷ Bit false ∷ Bit false ∷ [] }))
      ∷ Wire (codes "n_3") (RightWhole (codes "n_2"))
      ∷ Wire (codes "n_4") (RightLut (record { word = 51914; ins = Whole (codes "pq_0_2_0") ∷ Whole (codes "po_0_2_0") ∷ Whole (codes "n_1") ∷ Bit false ∷ [] }))
      ∷ Wire (codes "n_6") (RightLut (record { word = 51914; ins = Whole (codes "io_0_4_0_in") ∷ Whole (codes "n_3") ∷ Whole (codes "n_2") ∷ Bit false ∷ [] }))
      ∷ Wire (codes "n_5") (RightWhole (codes "n_6"))
      ∷ Assign (codes "io_0_2_0") (Whole (codes "n_4"))
      ∷ Assign (codes "io_0_4_0") (Whole (codes "n_3"))
      ∷ Assign (codes "io_0_4_0_en") (Whole (codes "n_2"))
      ∷ FlipFlop false (codes "io_0_1_0") (Bit true) (Bit false) false (codes "po_0_2_0") (record { word = 43690; ins = Whole (codes "n_3") ∷ Bit false ∷ Bit false ∷ Bit false ∷ [] })
      ∷ FlipFlop true (codes "io_0_1_0") (Whole (codes "co_0_2_0")) (Bit false) false (codes "pq_0_2_0") (record { word = 43690; ins = Whole (codes "n_2") ∷ Bit false ∷ Bit false ∷ Bit false ∷ [] })
      ∷ FlipFlop false (codes "io_0_1_0") (Bit true) (Bit false) false (codes "co_0_2_0") (record { word = 43690; ins = Bit true ∷ Bit false ∷ Bit false ∷ Bit false ∷ [] })
      ∷ [];
}
unfolding outputs_of digits any_below least_below gathered_below word_of register_of pin_register pin_registers_of numbered_from is_joined class_of drives_of drivers_of is_driven turn_at pass_of is_at_open end_within clock_end two_numbers three_numbers pad_name enable_name outside_name register_name read_name memory_name wire_name input_atom right_of class_right clock_name is_falling items_of module_of
bus_module = refl

-- ---- names with numbers of several digits

long_port : port_name (record input_pin { x = 33; y = 255; n = 10 }) ≡ codes "io_33_255_10"
unfolding digits three_numbers pad_name
long_port = refl

long_register : register_name (register_of read.All (record toggle { x = 7; y = 16 })) ≡ codes "ff_7_16_0"
unfolding digits three_numbers register_of register_name
long_register = refl

long_read : read_name (record ram { x = 8; y = 17 }) ≡ codes "rd_8_17"
unfolding digits two_numbers read_name
long_read = refl

long_memory : memory_name (record ram { x = 8; y = 17 }) ≡ codes "mem_8_17"
unfolding digits two_numbers memory_name
long_memory = refl

long_wire : wire_name 4294967295 ≡ codes "n_4294967295"
unfolding digits wire_name
long_wire = refl
