use Rattle.std.proofs.Common.{arith, ap, fold, subst, sym, ◌∙◌, take_all}
use Rattle.std.proofs.lemmas.List.Sums.{fold_more}
use Rattle.vlog_semantics.specs.Slots.{slot_of}
use Rattle.vlog_semantics.specs.Held.{Holds}
use Rattle.vlog_semantics.specs.Plans.{output_operand}
use Rattle.vlog_semantics.proofs.build.assign_outputs.Goals as goal

pub loop-item-preserved : goal.loop-item-preserved
loop-item-preserved c entries holds =
    let more = fold_more (output_operand (slot_of c.args.bits.now) (slot_of c.args.words.now)) entries c.args.items.now c.loop-item.item-index c.item-item.result (omega arith) ∙ ap ((output_operand (slot_of c.args.bits.now) (slot_of c.args.words.now)) _) (sym c.item-item.is) in
    subst (Holds c.assign_output.new.outputs) (sym more) (c.assign_output.ensures _ (c.loop-item.invariant entries holds))

pub returns : goal.returns
returns c entries holds =
    subst (Holds c.loop-item.outputs) (ap (fold (output_operand (slot_of c.args.bits.now) (slot_of c.args.words.now)) entries) (take_all c.loop-item.item-index c.args.items.now (omega arith))) (c.loop-item.invariant entries holds)
