-- Outputs as the code keeps them, and what pins drive and put out, by what the signals of pins are found by.
use Rattle.std.specs.Prelude.{false, true, ◌&&◌, List, [], ◌∷◌, if◌then◌else◌}
use Rattle.fabric_model.specs.declared.pin.Pin.{Pin}
use Rattle.fabric_model.specs.declared.driver.Driver.TheVariants as driver
use Rattle.fabric_model.specs.PinTypes.{has_table}
use Rattle.fabric_model.specs.Pins.{drives, is_switched, has_outside}
use Rattle.fabric_model.specs.Registers.{data_signal, pad_signal, enable_signal}
use Rattle.fabric_model.specs.PinKeys.{SignalsOf}
use Rattle.fabric_model.specs.Drivers.{Drive, drives_if, is_read_back, data_by_table, pad_by_table}
use Rattle.fabric_model.specs.Drivers.Rule.{input, table_entry}
use Rattle.fabric_model.specs.Outputs.{Output}
use Rattle.fabric_wiring.specs.declared.output_pins.Output.{Output as KeptOutput}

-- what a kept output says
abbrev pub output_of : KeptOutput → Output
output_of output = record { pin = output.pin; enable = output.enable; source = output.source }

-- the readback of a pin, if it has one
abbrev pub back_from : SignalsOf → Pin → List Drive
back_from signals pin =
    if is_read_back pin then drives_if (driver.Readback pin.x pin.y pin.n) (input (pad_signal signals.flips signals.pins pin)) pin.din_0 else []

-- what drives its inner net of what it drives its pad with
abbrev pub data_from : SignalsOf → Pin → List Drive
data_from signals pin =
    if drives pin && has_table pin.sends
    then drives_if (driver.Data pin.x pin.y pin.n) (table_entry (data_by_table signals.flips signals.pins pin pin.sends)) pin.data_net
    else []

-- what drives its inner net of its pad
abbrev pub pad_from : SignalsOf → Pin → List Drive
pad_from signals pin =
    if has_outside pin then drives_if (driver.Pad pin.x pin.y pin.n) (table_entry (pad_by_table signals.flips signals.pins pin)) pin.pad_net else []

-- its output enable, if it drives its pad at times
abbrev pub enable_from : SignalsOf → Pin → List Output
enable_from signals pin =
    if is_switched pin then record { pin = pin; enable = true; source = enable_signal signals.flips signals.pins pin } ∷ [] else []

-- the outputs of a pin that drives its pad
abbrev pub outputs_from : SignalsOf → Pin → List Output
outputs_from signals pin = record { pin = pin; enable = false; source = data_signal signals.flips signals.pins pin } ∷ enable_from signals pin
