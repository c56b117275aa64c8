use Rattle.std.proofs.Common.{◌≡◌, ◌++◌, map, take}
use Rattle.std.specs.Prelude.{flat_map}
use Rattle.fabric_model.specs.Drivers.{pin_drives}
use Rattle.fabric_wiring.specs.Drives.{drive_of}
use Rattle.fabric_wiring.proofs.pins.append_pins.Given as goal

abbrev pub invariant-loop-pin : goal.invariant-loop-pin
invariant-loop-pin l = map drive_of l.drives.items ≡ map drive_of l.initial.drives.items ++ flat_map (pin_drives l.signals.pins) (take l.pin-index l.pins)
