use Rattle.std.proofs.Common.{◌≡◌, take}
use Rattle.pin_file.specs.PortNames.{pin_at}
use Rattle.pin_file.specs.declared.place.PinPlace.{PinPlace}
use Rattle.pin_file.specs.inside.Reading.{pin_kept}
use Rattle.pin_file.proofs.port_pins.PortPins.of.Given as goal

abbrev pub invariant-loop-pin : goal.invariant-loop-pin
invariant-loop-pin l = (place : PinPlace) → pin_kept l.kept place ≡ pin_at (take l.pin-index l.pins) place
