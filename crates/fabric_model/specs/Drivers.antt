-- What drives each net.
use Rattle.std.specs.Prelude.{ℕ, Bool, true, false, not, ◌&&◌, ◌||◌, ◌-◌, ◌%◌, nat_le, List, [], ◌∷◌, ◌++◌, filter, flat_map, option_to_list, get_or, ◌==◌, if◌then◌else◌, Option, Some, None}
use Rattle.std.specs.List.{list_any}
use Rattle.fabric_model.specs.declared.cell.LogicCell.{LogicCell}
use Rattle.fabric_model.specs.declared.cell.CarrySet.{CarrySet}
use Rattle.fabric_model.specs.declared.lut_inputs.LutInputs.{LutInputs}
use Rattle.fabric_model.specs.declared.ram.RamCell.{RamCell}
use Rattle.fabric_model.specs.declared.pin.Pin.{Pin}
use Rattle.fabric_model.specs.declared.pin.PadData.{PadData}
use Rattle.fabric_model.specs.declared.pin.PadData.TheVariants as sends
use Rattle.fabric_model.specs.declared.pin.GlobalNet.{GlobalNet}
use Rattle.fabric_model.specs.declared.pin.GlobalFrom.{GlobalFrom}
use Rattle.fabric_model.specs.declared.pin.GlobalFrom.TheVariants.{Pad, Pll, Fabout}
use Rattle.fabric_model.specs.declared.pll.PllSource.{PllSource}
use Rattle.fabric_model.specs.declared.input_port.InputPort.TheVariants.{Pad as PadPort, Outside as OutsidePort}
use Rattle.fabric_model.specs.declared.signal.Signal.{Signal}
use Rattle.fabric_model.specs.declared.signal.Signal.TheVariants as signal
use Rattle.fabric_model.specs.declared.register.LutTable.{LutTable}
use Rattle.fabric_model.specs.declared.register.PinRegister.TheVariants as kind
use Rattle.fabric_model.specs.declared.register.RegisterKind.{RegisterKind}
use Rattle.fabric_model.specs.declared.register.RegisterKind.TheVariants.{FlipFlop, OfPin}
use Rattle.fabric_model.specs.declared.register.Register.{Register}
use Rattle.fabric_model.specs.declared.driver.Driver.{Driver}
use Rattle.fabric_model.specs.declared.driver.Driver.TheVariants as driver
use Rattle.fabric_model.specs.Joins.{class_of}
use Rattle.narrow_words.specs.Narrow.{share}
use Rattle.fabric_model.specs.Rams.{first_data_bit}
use Rattle.fabric_model.specs.PinTypes.{takes_pad, has_table}
use Rattle.fabric_model.specs.Pins.{drives, is_switched, has_outside}
use Rattle.fabric_model.specs.InputPorts.{input_place, pll_place}
use Rattle.fabric_model.specs.Signals.{net_or_0, signal_nets}
use Rattle.fabric_model.specs.Registers.{table_of, register_in, data_signal, pad_signal, enable_signal}
use Rattle.fabric_model.specs.Fabric.{Fabric, Buffer, numbered, flip_count}

-- How a driver makes its value. Input ports, registers and used RAMs are named by their indexes among those of the fabric.
pub data Rule : Type 0 where
  -- the value of an input port
  pin_bit : ℕ → Rule
  -- a bit that is always the same
  constant : Bool → Rule
  -- what an input reads
  input : Signal → Rule
  -- an entry of a table
  table_entry : LutTable → Rule
  -- the majority of three inputs
  majority_of : Option ℕ → Option ℕ → Option ℕ → Rule
  -- the value of a register
  register_bit : ℕ → Register → Rule
  -- a bit of the read register of a RAM
  read_bit : ℕ → ℕ → Rule
  -- the value of another net, from which a clock chain goes on
  copied : ℕ → Rule

-- a driver of a net, and how it makes its value
pub record Drive : Type 0 where
  pub driver : Driver
  pub net : ℕ
  pub rule : Rule

-- a driver of a net, and none if the net is missing
abbrev pub drives_if : Driver → Rule → Option ℕ → List Drive
drives_if by rule None = []
drives_if by rule (Some net) = record { driver = by; net = net; rule = rule } ∷ []

-- ---- the fifteen kinds of drivers

-- what a pin drives its pad with, its pad, and when it drives it
abbrev pub data_of : Fabric → Pin → Signal
data_of fabric pin = data_signal (flip_count fabric) fabric.pins pin

abbrev pub pad_of : Fabric → Pin → Signal
pad_of fabric pin = pad_signal (flip_count fabric) fabric.pins pin

abbrev pub enable_of : Fabric → Pin → Signal
enable_of fabric pin = enable_signal (flip_count fabric) fabric.pins pin

-- 1: the net `io_n/D_IN_0` of a pin that never drives its pad and takes the pad as it is has the value of the input port (`SB_IO`)
abbrev pub pin_drives : List Pin → Pin → List Drive
pin_drives pins pin =
    if not (drives pin) && takes_pad pin.takes
    then drives_if (driver.Pin pin.x pin.y pin.n) (pin_bit (input_place pins (PadPort pin.x pin.y pin.n))) pin.din_0
    else []

-- whether the fabric reads back the pad of a pin that drives it: it takes the pad as it is, and drives it always, or at times and the net is read
abbrev pub is_read_back : Pin → Bool
is_read_back pin = drives pin && (takes_pad pin.takes && (not (is_switched pin) || pin.reads_0))

-- 2: the readback: the net `io_n/D_IN_0` of such a pin has the value of the pad (`SB_IO`)
abbrev pub back_drives : Fabric → Pin → List Drive
back_drives fabric pin =
    if is_read_back pin then drives_if (driver.Readback pin.x pin.y pin.n) (input (pad_of fabric pin)) pin.din_0 else []

-- 3: `lutff_i/out` of a cell without a flip-flop has the LUT's value (`SB_LUT4`)
abbrev pub lut_drives : LutInputs → LogicCell → List Drive
lut_drives inputs lc = drives_if (driver.Lut lc.x lc.y lc.i) (table_entry (table_of inputs lc)) lc.out

-- what a register with a driver drives
abbrev pub drives_by : ℕ × Register → Option Driver → List Drive
drives_by place None = []
drives_by place (Some by) = drives_if by (register_bit place.0 place.1) place.1.out

-- the flip-flop of a cell as a driver
abbrev pub flip_driver : Register → RegisterKind → Option Driver
flip_driver register (FlipFlop i) = Some (driver.FlipFlop register.x register.y i)
flip_driver register (OfPin n kind) = None

-- 4: `lutff_i/out` of a cell with a flip-flop has the register's value (`SB_DFF` and its forms)
abbrev pub flip_drives : ℕ × Register → List Drive
flip_drives place = drives_by place (flip_driver place.1 place.1.kind)

-- 5: `lutff_i/lout` has the LUT's value (`SB_LUT4`)
abbrev pub lout_drives : LutInputs → LogicCell → List Drive
lout_drives inputs lc = drives_if (driver.LutOut lc.x lc.y lc.i) (table_entry (table_of inputs lc)) lc.lout

-- 6: `lutff_i/cout`, the carry-out of a cell whose carry is on, is the majority of in_1, in_2 and the carry-in (`SB_CARRY`)
abbrev pub carry_drives : LogicCell → List Drive
carry_drives lc = drives_if (driver.Carry lc.x lc.y lc.i) (majority_of (get_or lc.ins 1 None) (get_or lc.ins 2 None) lc.cin) lc.cout

-- 7: `carry_in_mux` is 1 if it is set (Project IceStorm, 'LOGIC Tile')
abbrev pub set_drives : CarrySet → List Drive
set_drives set = drives_if (driver.CarrySet set.x set.y) (constant true) (Some set.net)

-- Port bit b of the read data of a RAM. The data of a mode begins at port bit `first_data_bit`, which has bit 0 of the read register. Every
-- `share`th port bit from there on has the bit of the read register at the same distance from bit 0, and the other port bits are 0. So in
-- mode 0 it is bit b of the read register.
abbrev pub read_data_rule : ℕ → ℕ → ℕ → Rule
read_data_rule ram mode b =
    let place = b - first_data_bit mode in
    if nat_le (first_data_bit mode) b && (place % share mode == 0) then read_bit ram place else constant false

-- 8: `ram/RDATA_bit` has that bit of the read data (`SB_RAM40_4K`)
abbrev pub ram_drive : ℕ × RamCell → ℕ × Option ℕ → List Drive
ram_drive place port = drives_if (driver.Ram place.1.x place.1.y port.0) (read_data_rule place.0 place.1.read port.0) port.1

abbrev pub ram_drives : ℕ × RamCell → List Drive
ram_drives place = flat_map (ram_drive place) (numbered place.1.rdata)

-- 9: the net of a global network has the value of its pad (`SB_GB_IO`), of the output of a PLL whose pin has that pad, or of its net `fabout`
-- (`SB_GB`)
abbrev pub global_rule : List Pin → List PllSource → GlobalFrom → Rule
global_rule pins plls (Pad x y n) = pin_bit (input_place pins (PadPort x y n))
global_rule pins plls (Pll x y output) = pin_bit (pll_place pins plls x y output)
global_rule pins plls (Fabout net) = copied net

abbrev pub global_drives : List Pin → List PllSource → GlobalNet → List Drive
global_drives pins plls global = drives_if (driver.Global global.g global.net) (global_rule pins plls global.from) (Some global.net)

-- 10: the destination of a buffer that is on has the value of its source
abbrev pub buffer_drives : Buffer → List Drive
buffer_drives buffer = drives_if (driver.Link buffer.line) (copied buffer.src) (Some buffer.dst)

-- a register of a pin as a driver of `io_n/D_IN_0`
abbrev pub input_driver : Register → RegisterKind → Option Driver
input_driver register (FlipFlop i) = None
input_driver register (OfPin n kind.Input) = Some (driver.PinReg register.x register.y n)
input_driver register (OfPin n kind) = None

-- 11: the net `io_n/D_IN_0` of a pin that takes the pad by a register has the register's value (`SB_IO`)
abbrev pub input_drives : ℕ × Register → List Drive
input_drives place = drives_by place (input_driver place.1 place.1.kind)

-- a register of a pin as a driver of `io_n/D_IN_1`
abbrev pub second_driver : Register → RegisterKind → Option Driver
second_driver register (FlipFlop i) = None
second_driver register (OfPin n kind.SecondInput) = Some (driver.PinReg1 register.x register.y n)
second_driver register (OfPin n kind) = None

-- 12: the net `io_n/D_IN_1` has the value of its register (`SB_IO`)
abbrev pub second_drives : ℕ × Register → List Drive
second_drives place = drives_by place (second_driver place.1 place.1.kind)

-- LUTs as words, whose bit k is the value while the inputs spell k: 0xCACA has in_1 while in_2 is 1, and else in_0
abbrev pub in_1_if_in_2 : ℕ
in_1_if_in_2 = 51914

-- 0xACAC has in_0 while in_2 is 1, and else in_1
abbrev pub in_0_if_in_2 : ℕ
in_0_if_in_2 = 44204

-- 0x5555 has the inverse of in_0
abbrev pub not_in_0 : ℕ
not_in_0 = 21845

-- What a pin drives its pad with, as a table: the inverse of a register; or of two registers the one of `io_n/D_OUT_0` in the half of the
-- clock that begins with the own edge, and else the one of `io_n/D_OUT_1`.
abbrev pub data_by_table : ℕ → List Pin → Pin → PadData → LutTable
data_by_table flips pins pin sends.Double = record {
  word = if pin.neg then in_0_if_in_2 else in_1_if_in_2;
  ins = register_in flips pins pin kind.SecondOutput ∷ register_in flips pins pin kind.Output ∷ net_or_0 pin.outclk ∷ net_or_0 None ∷ [];
}
data_by_table flips pins pin sent = record {
  word = not_in_0;
  ins = register_in flips pins pin kind.Output ∷ net_or_0 None ∷ net_or_0 None ∷ net_or_0 None ∷ [];
}

abbrev pub data_table : Fabric → Pin → LutTable
data_table fabric pin = data_by_table (flip_count fabric) fabric.pins pin pin.sends

-- 13: the inner net of what a pin drives its pad with, if a LUT makes that of registers (`SB_IO`)
abbrev pub data_drives : Fabric → Pin → List Drive
data_drives fabric pin =
    if drives pin && has_table pin.sends then drives_if (driver.Data pin.x pin.y pin.n) (table_entry (data_table fabric pin)) pin.data_net else []

-- the pad of a switched pin, as a table: what the pin drives it with while it does, else what the outside puts on it
abbrev pub pad_by_table : ℕ → List Pin → Pin → LutTable
pad_by_table flips pins pin = record {
  word = in_1_if_in_2;
  ins =
      signal.Input (input_place pins (OutsidePort pin.x pin.y pin.n)) ∷ data_signal flips pins pin ∷ enable_signal flips pins pin ∷ net_or_0 None
      ∷ [];
}

abbrev pub pad_table : Fabric → Pin → LutTable
pad_table fabric pin = pad_by_table (flip_count fabric) fabric.pins pin

-- 14: the inner net of the pad of a switched pin whose pad is read (`SB_IO`)
abbrev pub pad_drives : Fabric → Pin → List Drive
pad_drives fabric pin = if has_outside pin then drives_if (driver.Pad pin.x pin.y pin.n) (table_entry (pad_table fabric pin)) pin.pad_net else []

-- 15: the net of an output of a PLL has the value of the input port (`SB_PLL40_CORE` and its other forms)
abbrev pub pll_drives : List Pin → List PllSource → PllSource → List Drive
pll_drives pins plls port = drives_if (driver.PllOut port.x port.y port.output) (pin_bit (pll_place pins plls port.x port.y port.output)) port.net

-- ---- all drivers

-- the drivers in their order
unfoldable pub drives_of : Fabric → List Drive
drives_of fabric =
    flat_map (pin_drives fabric.pins) fabric.pins
    ++ (flat_map (back_drives fabric) fabric.pins
    ++ (flat_map (lut_drives fabric.lut_inputs) (filter (λ lc. not lc.flip) fabric.lcs)
    ++ (flat_map flip_drives (numbered fabric.registers)
    ++ (flat_map (lout_drives fabric.lut_inputs) fabric.lcs
    ++ (flat_map carry_drives (filter (λ lc. lc.carry) fabric.lcs)
    ++ (flat_map set_drives fabric.sets
    ++ (flat_map ram_drives (numbered fabric.rams)
    ++ (flat_map (global_drives fabric.pins fabric.plls) fabric.globals
    ++ (flat_map buffer_drives fabric.buffers
    ++ (flat_map input_drives (numbered fabric.registers)
    ++ (flat_map second_drives (numbered fabric.registers)
    ++ (flat_map (data_drives fabric) fabric.pins
    ++ (flat_map (pad_drives fabric) fabric.pins
    ++ flat_map (pll_drives fabric.pins fabric.plls) fabric.plls)))))))))))))

-- whether a driver drives a net of a class of joined nets
abbrev pub is_driver_of : Fabric → ℕ → Drive → Bool
is_driver_of fabric class drive = class_of fabric.joins drive.net == class

-- the drivers of a class of joined nets, in their order
unfoldable pub drivers_of : Fabric → ℕ → List Drive
drivers_of fabric class = filter (is_driver_of fabric class) (drives_of fabric)

-- whether a class of joined nets has a driver
unfoldable pub is_driven : Fabric → ℕ → Bool
is_driven fabric class = list_any (is_driver_of fabric class) (drives_of fabric)

-- ---- what drivers read

-- The fan-in of a driver: the nets that its value depends on without a clock. A LUT reads the inputs of its table, a carry-out reads in_1,
-- in_2 and the carry-in, and a register with an asynchronous set or reset reads that input.
unfoldable pub nets_read : Rule → List ℕ
nets_read (pin_bit place) = []
nets_read (constant bit) = []
nets_read (input source) = signal_nets source
nets_read (table_entry table) = flat_map signal_nets table.ins
nets_read (majority_of a b c) = option_to_list a ++ (option_to_list b ++ option_to_list c)
nets_read (register_bit place register) = if register.is_async then option_to_list register.sr else []
nets_read (read_bit ram bit) = []
nets_read (copied net) = net ∷ []
