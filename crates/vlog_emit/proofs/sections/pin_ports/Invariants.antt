use Rattle.std.proofs.Common.{◌≡◌, flat_map, take}
use Rattle.fabric_module.specs.Written.{pin_ports}
use Rattle.vlog_emit.proofs.sections.pin_ports.Given as goal

abbrev pub invariant-loop-pin : goal.invariant-loop-pin
invariant-loop-pin l = l.ports.items ≡ flat_map pin_ports (take l.pin-index l.pins)
