use Rattle.std.proofs.Common.{◌≡◌, ◌*◌, take}
use Rattle.bit_plane.specs.BitList.{bits_of, placed}
use Rattle.bit_plane.specs.inside.Packed.{packed}
use Rattle.bit_plane.proofs.order.put_eights.Given as goal

abbrev pub invariant-loop-index : goal.invariant-loop-index
invariant-loop-index l = packed l.words ≡ placed l.position (bits_of (take (8 * l.index) l.bytes)) (packed l.initial.words)
