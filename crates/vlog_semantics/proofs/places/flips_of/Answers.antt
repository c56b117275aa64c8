use Rattle.std.proofs.Common.{◌++◌, ap, arith, sym, ◌∙◌}
use Rattle.vlog_semantics.specs.Found.{places_in}
use Rattle.vlog_semantics.specs.Plans.{flip_steps}
use Rattle.vlog_semantics.proofs.Filling.{flat_map-more}
use Rattle.vlog_semantics.proofs.places.flips_of.Goals as goal

pub loop-item-preserved : goal.loop-item-preserved
loop-item-preserved c =
    let steps = flip_steps (places_in c.args.places.now) in
    c.in_ok-push_flips.ensures
    ∙ ap (λ list. list ++ steps c.item-item.result) c.loop-item.invariant
    ∙ sym (flat_map-more steps c.args.items.now c.loop-item.item-index c.item-item.result (omega arith) c.item-item.is)
