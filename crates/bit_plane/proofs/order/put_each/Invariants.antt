use Rattle.std.proofs.Common.{◌≡◌, take}
use Rattle.bit_plane.specs.BitList.{bits_of, placed}
use Rattle.bit_plane.specs.inside.Packed.{packed}
use Rattle.bit_plane.proofs.order.put_each.Given as goal

abbrev pub invariant-loop-index : goal.invariant-loop-index
invariant-loop-index l = packed l.words ≡ placed l.position (bits_of (take l.index l.bytes)) (packed l.initial.words)
