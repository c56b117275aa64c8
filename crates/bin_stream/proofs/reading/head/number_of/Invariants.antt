use Rattle.std.proofs.Common.{◌≡◌, ◌<◌, ◌^◌, take}
use Rattle.bin_stream.specs.Commands.{number_of}
use Rattle.bin_stream.proofs.reading.head.number_of.Given as goal

abbrev pub invariant-loop-byte : goal.invariant-loop-byte
invariant-loop-byte l = record {
  number_is : l.number ≡ number_of (take l.byte-index l.payload);
  small : l.number < 256 ^ l.byte-index;
}
