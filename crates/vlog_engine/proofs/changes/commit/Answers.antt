use Rattle.std.proofs.Common.{List, Bool, ap, arith, fold, sym, take, ◌∙◌}
use Rattle.std.proofs.lemmas.List.Sums.{fold_more}
use Rattle.vlog_engine.specs.Changes.{change_slot}
use Rattle.vlog_engine.specs.Lanes.{lane_bits}
use Rattle.vlog_engine.proofs.changes.commit.Goals as goal

pub loop-change-preserved : goal.loop-change-preserved
loop-change-preserved g c =
    let at = g.V.Value.at in
    let i = c.loop-change.change-index in
    let changes = c.args.changes.now in
    record {
      cells = λ lane within.
          let so_far : List Bool = fold (change_slot at lane) (lane_bits at lane c.args.cells.now) (take i changes) in
          c.write_lanes.ensures.cells lane within
          ∙ ap (λ (list : List Bool). change_slot at lane list c.change-item.result) (c.loop-change.invariant.cells lane within)
          ∙ ap (λ change. change_slot at lane so_far change) c.change-item.is
          ∙ sym (fold_more (change_slot at lane) (lane_bits at lane c.args.cells.now) changes i c.change-item.result (omega arith));
      tracked = λ lane gates read tracked. c.write_lanes.ensures.tracked lane gates read (c.loop-change.invariant.tracked lane gates read tracked);
    }
