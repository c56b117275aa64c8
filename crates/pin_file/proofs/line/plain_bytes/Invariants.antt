use Rattle.std.proofs.Common.{◌≡◌, take, map}
use Rattle.pin_file.specs.Lines.{plain_byte}
use Rattle.pin_file.proofs.line.plain_bytes.Given as goal

abbrev pub invariant-loop-byte : goal.invariant-loop-byte
invariant-loop-byte l = l.plain.items ≡ map plain_byte (take l.byte-index l.bytes)
