-- What the signals of pins are found by.
use Rattle.std.specs.Prelude.{◌≡◌, ℕ, ◌&&◌, List, ◌++◌}
use Rattle.fabric_model.specs.declared.pin.Pin.{Pin}
use Rattle.fabric_model.specs.declared.pll.PllSource.{PllSource}
use Rattle.fabric_model.specs.declared.input_port.InputPort.{InputPort}
use Rattle.fabric_model.specs.declared.register.PinRegister.{PinRegister}
use Rattle.fabric_model.specs.declared.register.PinRegister.TheVariants as kind
use Rattle.fabric_model.specs.Tiles.{item_if}
use Rattle.fabric_model.specs.PinTypes.{takes_by_register, has_register, is_double, is_by_register}
use Rattle.fabric_model.specs.Pins.{drives}
use Rattle.fabric_model.specs.InputPorts.{inputs_among}
use Rattle.fabric_model.specs.Registers.{PinKey, pin_keys}
use Rattle.fabric_model.specs.declared.pin_signals.PinKey.{PinKey as KeptKey}

-- what a kept key says
abbrev pub key_of : KeptKey → PinKey
key_of key = record { x = key.x; y = key.y; n = key.n; register = key.register }

-- the number of flip-flops, the pins, and the outputs of PLLs that are input ports
pub record SignalsOf : Type 0 where
  pub flips : ℕ
  pub pins : List Pin
  pub plls : List PllSource

-- the input ports and the registers of pins
pub record AreSignals (pins : List Pin) (inputs : List InputPort) (keys : List PinKey) : Type 0 where
  pub inputs_are : inputs ≡ inputs_among pins
  pub keys_are : keys ≡ pin_keys pins

-- the registers of the inputs of a pin
abbrev pub input_registers_in : Pin → List PinRegister
input_registers_in pin =
    item_if (pin.reads_0 && takes_by_register pin.takes) kind.Input
    ++ (item_if pin.reads_1 kind.SecondInput
    ++ item_if pin.reads_1 kind.InputClockEnable)

-- the registers of its outputs
abbrev pub output_registers_in : Pin → List PinRegister
output_registers_in pin =
    item_if (drives pin && has_register pin.sends) kind.Output
    ++ (item_if (drives pin && is_double pin.sends) kind.SecondOutput
    ++ (item_if (drives pin && is_double pin.sends) kind.OutputClockEnable
    ++ item_if (is_by_register pin.drive) kind.OutputEnable))
