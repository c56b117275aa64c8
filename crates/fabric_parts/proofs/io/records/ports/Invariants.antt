use Rattle.std.proofs.Common.{◌≡◌, take}
use Rattle.std.specs.Prelude.{filter}
use Rattle.fabric_model.specs.Pins.{is_port}
use Rattle.fabric_parts.proofs.io.records.ports.Given as goal

abbrev pub invariant-loop-pin : goal.invariant-loop-pin
invariant-loop-pin l = l.ports.items ≡ filter is_port (take l.pin-index l.pins)
