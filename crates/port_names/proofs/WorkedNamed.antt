-- The definitions at three pins, worked out by hand.
use Rattle.std.proofs.Common.{◌≡◌, ℕ, false, List, [], ◌∷◌, refl}
use Rattle.std.specs.Prelude.{Bool, true, codes, None}
use Rattle.std.specs.Fmt.{digits}
use Rattle.fabric_model.specs.declared.pin.Pin.{Pin}
use Rattle.fabric_model.specs.declared.pin.PadDrive.{PadDrive}
use Rattle.fabric_model.specs.declared.pin.PadDrive.TheVariants as drive
use Rattle.fabric_model.specs.declared.pin.PadData.TheVariants as sends
use Rattle.fabric_model.specs.declared.pin.PadInput.TheVariants as takes
use Rattle.fabric_model.specs.declared.input_port.InputPort.TheVariants.{Outside}
use Rattle.fabric_module.specs.Names.{three_numbers, pad_name, enable_name, outside_name}
use Rattle.pin_file.specs.declared.pin_name.PinName.{PinName}
use Rattle.port_names.specs.Named.{port_pins, named_port, named_enable, named_input, port_renaming}

-- a pin of the io tile at (x, y) without nets
pin_at : ℕ → ℕ → ℕ → PadDrive → Bool → Pin
pin_at x y n driven read = record {
  x = x;
  y = y;
  n = n;
  drive = driven;
  sends = sends.Plain;
  takes = takes.Plain;
  reads_0 = read;
  reads_1 = false;
  is_global = false;
  neg = false;
  inclk = None;
  outclk = None;
  cen = None;
  din_0 = None;
  din_1 = None;
  dout_0 = None;
  dout_1 = None;
  enable = None;
  data_net = None;
  pad_net = None;
}

-- an input pin, a bidirectional pin whose pad is read, an output that can be switched off, and an output that the pin file doesn't name
pins : List Pin
pins = pin_at 0 12 1 drive.Never true ∷ pin_at 3 0 0 drive.ByNet true ∷ pin_at 3 0 1 drive.ByRegister false ∷ pin_at 13 5 0 drive.Always true ∷ []

-- a pin file names the first three, and a pin that is no port
named : List PinName
named =
    record { place = record { x = 3; y = 0; pio = 0 }; name = codes "data" }
    ∷ record { place = record { x = 6; y = 17; pio = 0 }; name = codes "led" }
    ∷ record { place = record { x = 3; y = 0; pio = 1 }; name = codes "bus" }
    ∷ record { place = record { x = 0; y = 12; pio = 1 }; name = codes "clk" } ∷ []

-- each pin has a port, the second and the third one an output enable, and the second one an input from outside
with_ports : port_pins pins
    ≡ record { place = record { x = 0; y = 12; pio = 1 }; enable = false; outside = false }
    ∷ record { place = record { x = 3; y = 0; pio = 0 }; enable = true; outside = true }
    ∷ record { place = record { x = 3; y = 0; pio = 1 }; enable = true; outside = false }
    ∷ record { place = record { x = 13; y = 5; pio = 0 }; enable = false; outside = false } ∷ []
unfolding pins pin_at
with_ports = refl

exchanged : port_renaming named pins
    ≡ (codes "io_0_12_1", codes "clk") ∷ (codes "io_3_0_0", codes "data") ∷ (codes "io_3_0_0_en", codes "data_en") ∷ (codes "io_3_0_0_in", codes "data_in")
    ∷ (codes "io_3_0_1", codes "bus") ∷ (codes "io_3_0_1_en", codes "bus_en") ∷ []
unfolding pins pin_at named port_renaming pad_name enable_name outside_name three_numbers digits
exchanged = refl

kept : named_port named (pin_at 13 5 0 drive.Always true) ≡ codes "io_13_5_0"
unfolding pin_at named pad_name three_numbers digits
kept = refl

switches : named_enable named (pin_at 3 0 0 drive.ByNet true) ≡ codes "data_en"
unfolding pin_at named
switches = refl

reads : named_input named (Outside 3 0 0) ≡ codes "data_in"
unfolding named
reads = refl
