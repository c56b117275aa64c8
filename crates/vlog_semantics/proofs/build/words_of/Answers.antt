use Rattle.std.proofs.Common.{arith, ap, flat_map, subst, sym, take_all}
use Rattle.vlog_semantics.specs.Held.{Holds}
use Rattle.vlog_semantics.specs.Run.{word_start}
use Rattle.vlog_semantics.proofs.Filling.{flat_map-more}
use Rattle.vlog_semantics.proofs.build.words_of.Goals as goal

pub loop-item-preserved : goal.loop-item-preserved
loop-item-preserved c =
    subst (Holds c.add_word.new.words) (sym (flat_map-more word_start c.args.items.now c.loop-item.item-index c.item-item.result (omega arith) c.item-item.is))
    (c.in_ok-add_word.ensures _ c.loop-item.invariant)

pub returns : goal.returns
returns c =
    subst (Holds c.loop-item.words) (ap (flat_map word_start) (take_all c.loop-item.item-index c.args.items.now (omega arith))) c.loop-item.invariant
