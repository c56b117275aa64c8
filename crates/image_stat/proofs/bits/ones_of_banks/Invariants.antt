use Rattle.std.proofs.Common.{◌≡◌, ◌≤◌, ◌*◌, ◌^◌, take, length}
use Rattle.std.specs.List.{flat_map}
use Rattle.bit_plane.specs.Rows.{flat}
use Rattle.ice_image.specs.Either.{configuration_of}
use Rattle.image_stat.specs.Counts.{ones_in}
use Rattle.image_stat.proofs.bits.ones_of_banks.Given as goal

abbrev pub invariant-loop-bank : goal.invariant-loop-bank
invariant-loop-bank l = record {
  is : l.count ≡ ones_in (flat_map flat (take l.bank (configuration_of l.image).cram));
  few : l.count ≤ l.bank * 2 ^ 32;
  room : length l.bytes ≡ length l.initial.bytes;
}
