-- The outputs of a fabric: what its pins drive their pads with, and when those that don't always drive it do (`SB_IO`).
use Rattle.std.specs.Prelude.{Bool, true, false, List, [], ◌∷◌, filter, flat_map, if◌then◌else◌}
use Rattle.fabric_model.specs.declared.pin.Pin.{Pin}
use Rattle.fabric_model.specs.declared.signal.Signal.{Signal}
use Rattle.fabric_model.specs.Pins.{drives, is_switched}
use Rattle.fabric_model.specs.Fabric.{Fabric}
use Rattle.fabric_model.specs.Drivers.{data_of, enable_of}

-- an output of a pin, and what it puts out: when the pin drives its pad if `enable` is set, else what it drives it with
pub record Output : Type 0 where
  pub pin : Pin
  pub enable : Bool
  pub source : Signal

-- the output enable of a pin that drives its pad at times
abbrev pub enable_outputs : Fabric → Pin → List Output
enable_outputs fabric pin = if is_switched pin then record { pin = pin; enable = true; source = enable_of fabric pin } ∷ [] else []

-- the outputs of a pin that drives its pad
abbrev pub pin_outputs : Fabric → Pin → List Output
pin_outputs fabric pin = record { pin = pin; enable = false; source = data_of fabric pin } ∷ enable_outputs fabric pin

-- all outputs, in the order of the pins
unfoldable pub outputs_of : Fabric → List Output
outputs_of fabric = flat_map (pin_outputs fabric) (filter drives fabric.pins)
