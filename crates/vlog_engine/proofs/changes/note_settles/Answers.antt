use Rattle.std.proofs.Common.{false, ap, arith, fold, sym, take, ◌∙◌}
use Rattle.std.proofs.lemmas.List.Sums.{fold_more}
use Rattle.vlog_semantics.specs.Steps.{settle_slot}
use Rattle.vlog_semantics.specs.declared.plan.Settle.{Settle}
use Rattle.vlog_engine.specs.Changes.{changed_by, step_in}
use Rattle.vlog_engine.specs.Lanes.{lane_bits}
use Rattle.vlog_engine.proofs.changes.note_settles.Goals as goal

pub loop-settle-preserved : goal.loop-settle-preserved
loop-settle-preserved g c =
    let none : Settle = record { wire = 0; set = false; target = 0 } in
    let i = c.loop-settle.settle-index in
    record {
      count = omega arith;
      noted = λ lane next within.
          let at = g.V.Value.at in
          let step = step_in (at c.args.active lane) (settle_slot (lane_bits at lane c.args.cells.now)) in
          c.note-count.ensures.noted lane next
          ∙ ap (λ state. changed_by at lane state c.settle_change.result) (c.loop-settle.invariant.noted lane next within)
          ∙ c.settle_change.ensures lane (fold step next (take i c.args.settles.now)) within
          ∙ sym (fold_more step next c.args.settles.now i none (omega arith));
    }
