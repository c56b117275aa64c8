use Rattle.std.proofs.Common.{◌≡◌, length, take}
use Rattle.fabric_wiring.proofs.Following.{AreFound}
use Rattle.fabric_wiring.proofs.ends.follow.Given as goal

abbrev pub invariant-loop-class : goal.invariant-loop-class
invariant-loop-class g l = record {
  classes : length l.ends ≡ g.fabric.nets;
  found : AreFound g.fabric (take l.class-index l.order) l.ends;
}
