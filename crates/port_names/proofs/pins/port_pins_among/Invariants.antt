use Rattle.std.proofs.Common.{◌≡◌, take}
use Rattle.port_names.specs.Named.{port_pins}
use Rattle.port_names.proofs.pins.port_pins_among.Given as goal

abbrev pub invariant-loop-pin : goal.invariant-loop-pin
invariant-loop-pin l = l.ports.items ≡ port_pins (take l.pin-index l.pins)
