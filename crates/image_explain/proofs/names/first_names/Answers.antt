use Rattle.std.proofs.Common.{arith}
use Rattle.image_explain.proofs.Firsts.{names-all, names-more, names-none}
use Rattle.image_explain.proofs.names.first_names.Goals as goal

pub loop-place-init : goal.loop-place-init
loop-place-init c = names-none c.args.names.now _ c.new-firsts.result (omega arith) c.new-firsts.ensures.empty

pub loop-place-preserved : goal.loop-place-preserved
loop-place-preserved c =
    names-more c.args.names.now c.loop-place.place c.index-names-place.result c.loop-place.firsts c.put_first.new.firsts (omega arith) (omega arith) c.index-names-place.is c.loop-place.invariant c.in_ok-put_first.ensures

pub returns : goal.returns
returns c = names-all c.args.names.now c.loop-place.place c.loop-place.firsts (omega arith) c.loop-place.invariant
