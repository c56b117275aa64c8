-- Which classes of joined nets read which, as a graph whose order and cycles `graph_order` defines.
use Rattle.std.specs.Prelude.{ℕ, List, [], ◌++◌, map, flat_map, slice_get, option_to_list, Option, Some, None}
use Rattle.graph_order.specs.Wiring.{Wiring}
use Rattle.fabric_model.specs.declared.signal.Signal.{Signal}
use Rattle.fabric_model.specs.declared.signal.Signal.TheVariants as signal
use Rattle.fabric_model.specs.declared.register.Register.{Register}
use Rattle.fabric_model.specs.declared.ram.RamCell.{RamCell}
use Rattle.fabric_model.specs.Joins.{class_of}
use Rattle.fabric_model.specs.Fabric.{Fabric}
use Rattle.fabric_model.specs.Drivers.{Rule, drivers_of, is_driven, nets_read}
use Rattle.fabric_model.specs.Drivers.Rule.{input, table_entry, register_bit, read_bit}
use Rattle.fabric_model.specs.Clocks.{clock_class}

-- the classes of joined nets that a class reads without a clock
abbrev pub classes_read : Fabric → ℕ → List ℕ
classes_read fabric class = flat_map (λ drive. map (class_of fabric.joins) (nets_read drive.rule)) (drivers_of fabric class)

-- the wiring of a fabric, which leaves clocks out: its nodes are the classes of joined nets
unfoldable pub wiring_of : Fabric → Wiring
wiring_of fabric = record { count = fabric.nets; driven = is_driven fabric; reads = classes_read fabric }

-- ---- registers that are clocks

-- the clock net of a register, and of the read port of a RAM
abbrev pub register_clock : Option Register → List ℕ
register_clock (Some register) = option_to_list register.clk
register_clock None = []

abbrev pub read_clock : Option RamCell → List ℕ
read_clock (Some ram) = option_to_list ram.rclk
read_clock None = []

-- the clock net of a register that an input reads
abbrev pub signal_clocks : Fabric → Signal → List ℕ
signal_clocks fabric (signal.Register place) = register_clock (slice_get fabric.registers place)
signal_clocks fabric _ = []

-- The clock nets of the registers, and of the read registers of RAMs, that the value of a driver is computed from. A bit of the read data
-- that is always 0 is computed from none.
unfoldable pub clocks_of_value : Fabric → Rule → List ℕ
clocks_of_value fabric (input source) = signal_clocks fabric source
clocks_of_value fabric (table_entry table) = flat_map (signal_clocks fabric) table.ins
clocks_of_value fabric (register_bit place register) = option_to_list register.clk
clocks_of_value fabric (read_bit ram bit) = read_clock (slice_get fabric.rams ram)
clocks_of_value fabric rule = []

-- the classes of the registers that are clocks of what the value of a class is computed from
abbrev pub classes_clocking : Fabric → ℕ → List ℕ
classes_clocking fabric class =
    flat_map (λ drive. flat_map (λ net. option_to_list (clock_class fabric (Some net))) (clocks_of_value fabric drive.rule)) (drivers_of fabric class)

-- The wiring of a fabric, which counts registers that are clocks: a class reads them too, if its value is computed from what they clock.
-- Without such registers it is the wiring that leaves clocks out.
unfoldable pub clocked_wiring : Fabric → Wiring
clocked_wiring fabric = record {
  count = fabric.nets;
  driven = is_driven fabric;
  reads = λ class. classes_read fabric class ++ classes_clocking fabric class;
}
