use Rattle.std.proofs.Common.{◌≡◌, take}
use Rattle.bit_plane.proofs.order.same.Given as goal

abbrev pub invariant-loop-index : goal.invariant-loop-index
invariant-loop-index l = take l.index l.words ≡ take l.index l.other
