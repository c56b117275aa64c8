use Rattle.std.proofs.Common.{ℕ, arith, length-take, length-drop}
use Rattle.ice_io.proofs.Parts.{Appends_parts}
use Rattle.ice_io.proofs.sink.write_whole.Goals as goal

pub loop-written-preserved : goal.loop-written-preserved
loop-written-preserved g c = record {
  part = Appends_parts _ _ _ c.args.bytes.now _ _ c.loop-written.invariant.part c.in-Ok.ensures.bytes;
  within = omega (arith, c.in-Ok.ensures.count, length-take {A = ℕ}, length-drop {A = ℕ});
  faults = omega arith;
}
