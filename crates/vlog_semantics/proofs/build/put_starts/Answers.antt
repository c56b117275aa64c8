use Rattle.std.proofs.Common.{arith, ap, fold, subst, sym, ◌∙◌, take_all}
use Rattle.std.proofs.lemmas.List.Sums.{fold_more}
use Rattle.vlog_semantics.specs.Held.{Holds}
use Rattle.vlog_semantics.specs.Run.{start_step}
use Rattle.vlog_semantics.proofs.build.put_starts.Goals as goal

pub loop-item-preserved : goal.loop-item-preserved
loop-item-preserved c entries holds =
    let more = fold_more start_step entries c.args.items.now c.loop-item.item-index c.item-item.result (omega arith) ∙ ap (start_step _) (sym c.item-item.is) in
    subst (Holds c.put_start.new.memories) (sym more) (c.put_start.ensures _ (c.loop-item.invariant entries holds))

pub returns : goal.returns
returns c entries holds =
    subst (Holds c.loop-item.memories) (ap (fold start_step entries) (take_all c.loop-item.item-index c.args.items.now (omega arith))) (c.loop-item.invariant entries holds)
