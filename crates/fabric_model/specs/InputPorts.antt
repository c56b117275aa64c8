-- Input ports: the pads of pins, in the order of the pins, then outputs of PLLs.
use Rattle.std.specs.Prelude.{ℕ, ◌+◌, Bool, false, ◌&&◌, List, ◌++◌, length, map, flat_map, position, unwrap_or, ◌==◌}
use Rattle.fabric_model.specs.declared.pin.Pin.{Pin}
use Rattle.fabric_model.specs.declared.input_port.InputPort.{InputPort}
use Rattle.fabric_model.specs.declared.input_port.InputPort.TheVariants.{Pad, Outside, Pll}
use Rattle.fabric_model.specs.declared.pll.PllOutput.{PllOutput}
use Rattle.fabric_model.specs.declared.pll.PllSource.{PllSource}
use Rattle.fabric_model.specs.Tiles.{item_if}
use Rattle.fabric_model.specs.Plls.{output_number}
use Rattle.fabric_model.specs.Pins.{has_input, has_outside}

-- the input ports of a pin, of which there is one at most
abbrev pub pin_inputs : Pin → List InputPort
pin_inputs pin = item_if (has_input pin) (Pad pin.x pin.y pin.n) ++ item_if (has_outside pin) (Outside pin.x pin.y pin.n)

-- the input ports of pins, in the order of the pins
abbrev pub inputs_among : List Pin → List InputPort
inputs_among pins = flat_map pin_inputs pins

-- whether two places are the same
abbrev pub is_same_place : ℕ → ℕ → ℕ → ℕ → ℕ → ℕ → Bool
is_same_place x y n other_x other_y other_n = (x == other_x) && ((y == other_y) && (n == other_n))

-- whether two input ports are the same
abbrev pub is_same_port : InputPort → InputPort → Bool
is_same_port (Pad x y n) (Pad other_x other_y other_n) = is_same_place x y n other_x other_y other_n
is_same_port (Outside x y n) (Outside other_x other_y other_n) = is_same_place x y n other_x other_y other_n
is_same_port (Pll x y output) (Pll other_x other_y other) = is_same_place x y (output_number output) other_x other_y (output_number other)
is_same_port port other = false

-- the index of an input port among those of pins, or their number if it isn't one of them
abbrev pub input_place : List Pin → InputPort → ℕ
input_place pins port = unwrap_or (position (is_same_port port) (inputs_among pins)) (length (inputs_among pins))

-- ---- outputs of PLLs

-- the input port of an output of a PLL
abbrev pub pll_input : PllSource → InputPort
pll_input port = Pll port.x port.y port.output

-- all input ports
abbrev pub inputs_with : List Pin → List PllSource → List InputPort
inputs_with pins plls = inputs_among pins ++ map pll_input plls

-- whether a port is that output of the PLL at (x, y)
abbrev pub is_output_of : ℕ → ℕ → PllOutput → PllSource → Bool
is_output_of x y output port = is_same_place x y (output_number output) port.x port.y (output_number port.output)

-- the index of an output of a PLL among all input ports, or their number if it isn't one of them
abbrev pub pll_place : List Pin → List PllSource → ℕ → ℕ → PllOutput → ℕ
pll_place pins plls x y output = length (inputs_among pins) + unwrap_or (position (is_output_of x y output) plls) (length plls)
