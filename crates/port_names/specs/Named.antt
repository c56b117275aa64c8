-- The names that a pin file gives to the ports of a module that is written for a fabric.
use Rattle.std.specs.Prelude.{◌≡◌, ℕ, false, List, [], ◌∷◌, ◌++◌, map, find, flat_map, Option, Some, None, option_map, if◌then◌else◌}
use Rattle.vlog_module.specs.declared.modules.Port.{Port}
use Rattle.vlog_module.specs.Parts.{Parts}
use Rattle.fabric_model.specs.declared.pin.Pin.{Pin}
use Rattle.fabric_model.specs.declared.input_port.InputPort.{InputPort}
use Rattle.fabric_model.specs.declared.input_port.InputPort.TheVariants.{Pad, Outside, Pll}
use Rattle.fabric_model.specs.Tiles.{item_if}
use Rattle.fabric_model.specs.Pins.{drives, is_switched, has_outside}
use Rattle.fabric_model.specs.InputPorts.{pin_inputs, pll_input}
use Rattle.fabric_model.specs.Fabric.{Fabric}
use Rattle.fabric_model.specs.Outputs.{Output}
use Rattle.fabric_module.specs.Names.{pad_name, port_name, enable_name, outside_name, pll_name}
use Rattle.fabric_module.specs.Written.{output_port, module_of}
use Rattle.pin_file.specs.declared.place.PinPlace.{PinPlace}
use Rattle.pin_file.specs.declared.place.PortPin.{PortPin}
use Rattle.pin_file.specs.declared.pin_name.PinName.{PinName}
use Rattle.pin_file.specs.PortNames.{is_place, enable_name as enable_name_after, input_name as input_name_after}
use Rattle.pin_file.specs.Packages.{Package}
use Rattle.pin_file.specs.Faults.{ports_of, pin_fault_of}
use Rattle.port_names.specs.Renamed.{renamed}

-- ---- places

abbrev pub place_of : Pin → PinPlace
place_of pin = record { x = pin.x; y = pin.y; pio = pin.n }

-- a pin of a design and its ports: one that drives its pad at times has an output enable, and an input from outside if its pad is read
abbrev pub port_pin : Pin → PortPin
port_pin pin = record { place = place_of pin; enable = is_switched pin; outside = has_outside pin }

-- the pins of a design and their ports; each pin has a port
abbrev pub port_pins : List Pin → List PortPin
port_pins pins = map port_pin pins

-- The named ports come from a pin file that has no fault, for the package that was chosen and for these pins.
pub record AreAccepted (pins : List Pin) (named : List PinName) : Type 0 where
  pub chosen : Package
  pub text : List ℕ
  pub faultless : pin_fault_of chosen text ≡ None
  pub are : named ≡ ports_of chosen (port_pins pins) text

-- ---- names

-- the first name that is given for a place, if there is one
abbrev pub given_at : List PinName → PinPlace → Option (List ℕ)
given_at named place = option_map (λ port. port.name) (find (λ port. is_place place port.place) named)

-- that for the place of a pin
abbrev pub given_name : List PinName → Pin → Option (List ℕ)
given_name named pin = given_at named (place_of pin)

-- the name that is given, or else the port's own
abbrev pub name_by : List ℕ → Option (List ℕ) → List ℕ
name_by own (Some name) = name
name_by own None = own

-- the name that is given with `_en` after it, or else the port's own
abbrev pub enable_by : List ℕ → Option (List ℕ) → List ℕ
enable_by own (Some name) = enable_name_after name
enable_by own None = own

-- the name that is given with `_in` after it, or else the port's own
abbrev pub outside_by : List ℕ → Option (List ℕ) → List ℕ
outside_by own (Some name) = input_name_after name
outside_by own None = own

-- the name of the port at which a pin puts out what it drives its pad with
abbrev pub named_port : List PinName → Pin → List ℕ
named_port named pin = name_by (port_name pin) (given_name named pin)

-- the name of the port that is a pin's output enable
abbrev pub named_enable : List PinName → Pin → List ℕ
named_enable named pin = enable_by (enable_name pin) (given_name named pin)

-- the name of an input port; that of an output of a PLL keeps its own
abbrev pub named_input : List PinName → InputPort → List ℕ
named_input named (Pad x y n) = name_by (pad_name x y n) (given_at named (record { x = x; y = y; pio = n }))
named_input named (Outside x y n) = outside_by (outside_name x y n) (given_at named (record { x = x; y = y; pio = n }))
named_input named (Pll x y output) = pll_name x y output

-- the name of an output's port
abbrev pub named_output : List PinName → Output → List ℕ
named_output named output = if output.enable then named_enable named output.pin else named_port named output.pin

-- the ports of a pin, as a module declares them
abbrev pub named_input_port : List PinName → InputPort → Port
named_input_port named port = record { name = named_input named port; output = false }

abbrev pub named_pin_ports : List PinName → Pin → List Port
named_pin_ports named pin =
    item_if (drives pin) (output_port (named_port named pin))
    ++ (item_if (is_switched pin) (output_port (named_enable named pin)) ++ map (named_input_port named) (pin_inputs pin))

-- all ports: those of the pins, by pin, then the outputs of PLLs
unfoldable pub named_ports : List PinName → Fabric → List Port
named_ports named fabric = flat_map (named_pin_ports named) fabric.pins ++ map (named_input_port named) (map pll_input fabric.plls)

-- ---- the renaming

-- the names of a pin's ports, each with its new name
abbrev pub renaming_by : Pin → Option (List ℕ) → List (List ℕ × List ℕ)
renaming_by pin None = []
renaming_by pin (Some name) =
    (port_name pin, name)
    ∷ (item_if (is_switched pin) (enable_name pin, enable_name_after name)
    ++ item_if (has_outside pin) (outside_name pin.x pin.y pin.n, input_name_after name))

abbrev pub pin_renaming : List PinName → Pin → List (List ℕ × List ℕ)
pin_renaming named pin = renaming_by pin (given_name named pin)

-- the names of the ports of all pins, each with its new name; a pin that isn't named keeps its names
unfoldable pub port_renaming : List PinName → List Pin → List (List ℕ × List ℕ)
port_renaming named pins = flat_map (pin_renaming named) pins

-- the module of a fabric with the names that are given
unfoldable pub named_module : List PinName → Fabric → List ℕ → List ℕ → Parts
named_module named fabric order name = renamed (port_renaming named fabric.pins) (module_of fabric order name)
