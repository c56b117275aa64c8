use Rattle.std.proofs.Common.{◌≡◌, ◌*◌, take, drop}
use Rattle.bit_plane.specs.BitList.{bytes_of}
use Rattle.bit_plane.specs.inside.Packed.{packed}
use Rattle.bit_plane.proofs.order.take_eights.Given as goal

abbrev pub invariant-loop-index : goal.invariant-loop-index
invariant-loop-index l = take (8 * l.index) l.bytes ≡ bytes_of (8 * l.index) (drop l.position (packed l.words))
