use Rattle.std.proofs.Common.{[], ap, arith, fold, sym, take, ◌∙◌}
use Rattle.vlog_semantics.specs.Steps.{flip_slot}
use Rattle.vlog_engine.specs.Changes.{changed_by, step_in}
use Rattle.vlog_engine.specs.Flips.{flip_flops, no_flip}
use Rattle.vlog_engine.specs.Lanes.{lane_bits}
use Rattle.vlog_engine.specs.StepKinds.{slots_of}
use Rattle.vlog_engine.specs.Triggers.{step_by}
use Rattle.vlog_engine.proofs.Flipped.{fold-flips}
use Rattle.vlog_engine.proofs.flips.note_all.Goals as goal

pub loop-flip-preserved : goal.loop-flip-preserved
loop-flip-preserved g c =
    let i = c.loop-flip.flip-index in
    let at = g.V.Value.at in
    let inv = c.loop-flip.invariant in
    record {
      count = omega arith;
      noted = λ lane next within.
          let cells = lane_bits at lane c.args.cells.now in
          let step = step_in (at c.args.trigger.now.active lane) (flip_slot (slots_of (step_by c.args.trigger.now.cause (lane_bits at lane c.args.trigger.now.earlier.now) cells)) cells []) in
          c.note-count.ensures.noted lane next
          ∙ ap (λ state. changed_by at lane state c.flip_change-made.result) (inv.noted lane next within)
          ∙ c.flip_change-made.ensures.change lane (fold step next (flip_flops (take i c.args.flips.now))) within (λ on. absurd cc)
          ∙ sym (fold-flips step next c.args.flips.now i no_flip (omega arith));
    }
