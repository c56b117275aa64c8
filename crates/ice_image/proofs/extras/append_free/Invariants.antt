use Rattle.std.proofs.Common.{◌≡◌, ◌++◌}
use Rattle.ice_image.specs.Written.{free_places}
use Rattle.ice_image.proofs.extras.append_free.Given as goal

abbrev pub invariant-loop-k : goal.invariant-loop-k
invariant-loop-k l = l.places.items ≡ l.initial.places.items ++ free_places l.bank l.px l.py l.free l.k
