use Rattle.std.proofs.Common.{◌≡◌, ◌≤◌, ◌*◌, take}
use Rattle.bit_plane.specs.BitList.{bits_of}
use Rattle.image_stat.specs.Counts.{ones_in}
use Rattle.image_stat.proofs.bits.ones_of_bytes.Given as goal

abbrev pub invariant-loop-byte : goal.invariant-loop-byte
invariant-loop-byte l = record {
  is : l.count ≡ ones_in (bits_of (take l.byte-index l.bytes));
  few : l.count ≤ 8 * l.byte-index;
}
