-- The module that is written for a fabric: its ports and its items in their order.
use Rattle.std.specs.Prelude.{ℕ, Bool, true, false, ◌==◌, List, [], ◌∷◌, ◌++◌, map, flat_map, get_or, take, Option, Some, None, if◌then◌else◌}
use Rattle.bit_plane.specs.BitList.{word_of}
use Rattle.vlog_module.specs.Parts.{Parts}
use Rattle.vlog_module.specs.declared.item.Item.{Item}
use Rattle.vlog_module.specs.declared.item.Item.TheVariants.{Register as RegisterItem, Word, Memory, Wire, Assign, FlipFlop, AsyncFlipFlop, AsyncReset, Read, ReadNarrow, Write, WriteNarrow, Start}
use Rattle.vlog_module.specs.declared.modules.Port.{Port}
use Rattle.fabric_model.specs.declared.register.Register.{Register}
use Rattle.fabric_model.specs.declared.ram.RamCell.{RamCell}
use Rattle.fabric_model.specs.declared.pin.Pin.{Pin}
use Rattle.fabric_model.specs.declared.input_port.InputPort.{InputPort}
use Rattle.fabric_model.specs.Tiles.{each_below, item_if}
use Rattle.fabric_model.specs.Pins.{drives, is_switched}
use Rattle.fabric_model.specs.InputPorts.{pin_inputs, pll_input}
use Rattle.fabric_model.specs.Fabric.{Fabric, numbered}
use Rattle.fabric_model.specs.Outputs.{Output, outputs_of}
use Rattle.fabric_model.specs.ClockLuts.{turned_bit}
use Rattle.fabric_model.specs.Clocks.{ClockEnd, is_turned, clock_end}
use Rattle.fabric_model.specs.Clocks.ClockEnd.{at_pin, at_register, still, logic}
use Rattle.fabric_module.specs.Names.{port_name, enable_name, input_port_name, output_name, register_name, read_name, memory_name, wire_name}
use Rattle.fabric_module.specs.Rights.{atom_or_0, atom_or_1, port_atoms, lut_of, input_name, setting_wire, pattern_of, shift_atoms, data_atoms, signal_atom, register_at, class_right}

-- ---- clocks

-- the input port or the register at which a clock chain ends, if it ends at one
abbrev pub end_name : Fabric → ClockEnd → Option (List ℕ)
end_name fabric (at_pin place turned) = Some (input_name fabric place)
end_name fabric (at_register class place turned) = Some (register_at fabric place)
end_name fabric (still bit) = None
end_name fabric logic = None

-- the input port or the register at which the clock chain of a clock net ends, if it ends at one
unfoldable pub clock_name : Fabric → Option ℕ → Option (List ℕ)
clock_name fabric None = None
clock_name fabric (Some net) = end_name fabric (clock_end fabric net)

-- whether the item of a user is written for falling edges of the port or the register: if either the user takes its value at falling edges
-- of its clock net, or the clock chain is turned, but not if both hold
unfoldable pub is_falling : Fabric → Bool → Option ℕ → Bool
is_falling fabric inverted None = inverted
is_falling fabric inverted (Some net) = turned_bit (is_turned (clock_end fabric net)) inverted

-- an item with that clock, if there is a clock
abbrev pub clocked : Option (List ℕ) → (List ℕ → Item) → List Item
clocked None item = []
clocked (Some clock) item = item clock ∷ []

-- ---- items

-- an output port of a pin
abbrev pub output_port : List ℕ → Port
output_port name = record { name = name; output = true }

abbrev pub input_port : InputPort → Port
input_port port = record { name = input_port_name port; output = false }

-- the ports of a pin in their order: its output and its output enable, if it has them, and its input port
abbrev pub pin_ports : Pin → List Port
pin_ports pin =
    item_if (drives pin) (output_port (port_name pin)) ++ (item_if (is_switched pin) (output_port (enable_name pin)) ++ map input_port (pin_inputs pin))

-- all ports: those of the pins, by pin, then the outputs of PLLs
abbrev pub ports_of : Fabric → List Port
ports_of fabric = flat_map pin_ports fabric.pins ++ map input_port (map pll_input fabric.plls)

-- a register, which starts at 0
abbrev pub register_item : Register → Item
register_item register = RegisterItem (register_name register) false

-- the read register of a RAM, which starts at 0
abbrev pub read_register : RamCell → Item
read_register ram = Word (read_name ram) 0

abbrev pub ram_memory : RamCell → Item
ram_memory ram = Memory (memory_name ram)

-- the wire of a class of joined nets
abbrev pub class_wire : Fabric → ℕ → Item
class_wire fabric class = Wire (wire_name class) (class_right fabric class)

-- the assignment of an output
abbrev pub output_assign : Fabric → Output → Item
output_assign fabric output = Assign (output_name output) (signal_atom fabric output.source)

-- a register with a synchronous set or reset: its clock enable, its set or reset, and its LUT
abbrev pub flip_item : Fabric → Register → List ℕ → Item
flip_item fabric register clock =
    FlipFlop (is_falling fabric register.neg register.clk) clock (signal_atom fabric register.enable) (atom_or_0 fabric register.sr) register.«set» (register_name register)
    (lut_of fabric register.table)

-- a register with an asynchronous set or reset, and a clock
abbrev pub at_once_item : Fabric → Register → List ℕ → List ℕ → Item
at_once_item fabric register wire clock =
    AsyncFlipFlop (is_falling fabric register.neg register.clk) clock wire register.«set» (register_name register) (signal_atom fabric register.enable) (lut_of fabric register.table)

-- what a register is written as, by the wire of its asynchronous set or reset and by its clock, each of which may be missing
abbrev pub items_by : Fabric → Register → Option (List ℕ) → Option (List ℕ) → List Item
items_by fabric register (Some wire) (Some clock) = at_once_item fabric register wire clock ∷ []
items_by fabric register (Some wire) None = AsyncReset wire register.«set» (register_name register) ∷ []
items_by fabric register None (Some clock) = flip_item fabric register clock ∷ []
items_by fabric register None None = []

abbrev pub register_items : Fabric → Register → List Item
register_items fabric register = items_by fabric register (setting_wire fabric register) (clock_name fabric register.clk)

-- the read port of a RAM, by its mode
abbrev pub read_item : Fabric → RamCell → List ℕ → Item
read_item fabric ram clock =
    let address = port_atoms fabric (take 8 ram.raddr) in
    if ram.read == 0
    then Read (is_falling fabric ram.rneg ram.rclk) clock (atom_or_1 fabric ram.rclke) (atom_or_0 fabric ram.re) (read_name ram) (memory_name ram) address
    else ReadNarrow (is_falling fabric ram.rneg ram.rclk) clock (atom_or_1 fabric ram.rclke) (atom_or_0 fabric ram.re) (read_name ram) (memory_name ram) address
    (shift_atoms fabric ram.read ram.raddr) (pattern_of ram.read)

abbrev pub read_items : Fabric → RamCell → List Item
read_items fabric ram = clocked (clock_name fabric ram.rclk) (read_item fabric ram)

-- the write port of a RAM, by its mode
abbrev pub write_item : Fabric → RamCell → List ℕ → Item
write_item fabric ram clock =
    let address = port_atoms fabric (take 8 ram.waddr) in
    if ram.write == 0
    then Write (is_falling fabric ram.wneg ram.wclk) clock (atom_or_1 fabric ram.wclke) (atom_or_0 fabric ram.we) (memory_name ram) address
    (port_atoms fabric ram.mask) (port_atoms fabric ram.wdata)
    else WriteNarrow (is_falling fabric ram.wneg ram.wclk) clock (atom_or_1 fabric ram.wclke) (atom_or_0 fabric ram.we) (memory_name ram) address
    (pattern_of ram.write) (shift_atoms fabric ram.write ram.waddr) (data_atoms fabric ram.write ram.wdata)

abbrev pub write_items : Fabric → RamCell → List Item
write_items fabric ram = clocked (clock_name fabric ram.wclk) (write_item fabric ram)

-- one of the 256 start words of a RAM
abbrev pub start_item : RamCell → List (List Bool) → ℕ → Item
start_item ram words k = Start (memory_name ram) k (word_of (get_or words k []))

abbrev pub start_items : Fabric → ℕ × RamCell → List Item
start_items fabric place = each_below 256 (start_item place.1 (get_or fabric.start place.0 []))

-- ---- the module

-- the items: state, wires in the order of their classes of joined nets, outputs, what clocks change, and start words
unfoldable pub items_of : Fabric → List ℕ → List Item
items_of fabric order =
    map register_item fabric.registers
    ++ (map read_register fabric.rams
    ++ (map ram_memory fabric.rams
    ++ (map (class_wire fabric) order
    ++ (map (output_assign fabric) (outputs_of fabric)
    ++ (flat_map (register_items fabric) fabric.registers
    ++ (flat_map (read_items fabric) fabric.rams
    ++ (flat_map (write_items fabric) fabric.rams
    ++ flat_map (start_items fabric) (numbered fabric.rams))))))))

-- the module of a fabric, with its classes of joined nets in an order, and with a name
unfoldable pub module_of : Fabric → List ℕ → List ℕ → Parts
module_of fabric order name = record {
  name = name;
  ports = ports_of fabric;
  items = items_of fabric order;
}
