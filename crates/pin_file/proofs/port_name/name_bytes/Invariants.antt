use Rattle.std.proofs.Common.{◌≡◌, take, map}
use Rattle.pin_file.specs.PortNames.{name_byte}
use Rattle.pin_file.proofs.port_name.name_bytes.Given as goal

abbrev pub invariant-loop-byte : goal.invariant-loop-byte
invariant-loop-byte l = l.name.items ≡ map name_byte (take l.byte-index l.bytes)
