use Rattle.std.proofs.Common.{arith}
use Rattle.image_explain.proofs.Firsts.{extras-all, extras-more, extras-none}
use Rattle.image_explain.proofs.extras.first_extras.Goals as goal

pub loop-place-init : goal.loop-place-init
loop-place-init c = extras-none c.args.extras.now _ c.new-firsts.result (omega arith) c.new-firsts.ensures.empty

pub loop-place-preserved : goal.loop-place-preserved
loop-place-preserved c =
    extras-more c.args.extras.now c.loop-place.place c.index-extras-place.result c.loop-place.firsts c.put_first.new.firsts (omega arith) (omega arith) c.index-extras-place.is c.loop-place.invariant c.in_ok-put_first.ensures

pub returns : goal.returns
returns c = extras-all c.args.extras.now c.loop-place.place c.loop-place.firsts (omega arith) c.loop-place.invariant
