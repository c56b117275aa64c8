use Rattle.std.proofs.Common.{[], false, ap, ap₂, cond, sym, ◌∙◌}
use Rattle.std.specs.Prelude.{map}
use Rattle.vlog_semantics.specs.Cells.{cell_at}
use Rattle.vlog_semantics.specs.Values.{bit_of, number_of}
use Rattle.vlog_semantics.specs.Steps.{is_at, operand_value, table_value}
use Rattle.vlog_engine.specs.Flips.{flip_flop, inputs}
use Rattle.vlog_engine.specs.Lanes.{lane_bits}
use Rattle.vlog_engine.specs.StepKinds.{slots_of}
use Rattle.vlog_engine.specs.Triggers.{step_by}
use Rattle.vlog_engine.proofs.FlipGates.{kept-even}
use Rattle.vlog_engine.proofs.Flipped.{flip-keeps, flip-makes}
use Rattle.vlog_engine.proofs.flips.flip_change.Goals as goal

pub returns-clause-change : goal.returns-clause-change
returns-clause-change g c lane next within same =
    let at = g.V.Value.at in
    let cells = lane_bits at lane c.args.cells.now in
    let flip = flip_flop c.args.flip.now in
    let slots = slots_of (step_by c.args.cause (lane_bits at lane c.args.earlier.now) cells) in
    let old = at c.value_at-old.result lane in
    flip-makes (at c.args.active lane) (is_at slots flip.edge) (operand_value cells [] flip.enable) (at c.both.result lane) next flip.target (at c.select-value.result lane) old
    (cond (operand_value cells [] flip.reset) flip.set (table_value cells [] flip.table))
    (c.both.ensures lane within ∙ ap₂ (λ l e. cond l e false) (c.edge_lanes-edges.ensures lane within) (c.value_at-enable.ensures lane within))
    (c.select-value.ensures lane within ∙ ap₂ (λ e v. cond e v old) (c.value_at-enable.ensures lane within) (c.next_value.ensures lane within))

pub returns-then-is_kept-clause-change : goal.returns-then-is_kept-clause-change
returns-then-is_kept-clause-change g c lane next within same =
    let at = g.V.Value.at in
    let cells = lane_bits at lane c.args.cells.now in
    let flip = flip_flop c.args.flip.now in
    let slots = slots_of (step_by c.args.cause (lane_bits at lane c.args.earlier.now) cells) in
    let old = at c.value_at-old.result lane in
    flip-keeps (at c.args.active lane) (is_at slots flip.edge) (operand_value cells [] flip.enable) next flip.target (at c.select-value.result lane) old
    (cond (operand_value cells [] flip.reset) flip.set (table_value cells [] flip.table))
    (c.select-value.ensures lane within ∙ ap₂ (λ e v. cond e v old) (c.value_at-enable.ensures lane within) (c.next_value.ensures lane within))
    (ap (λ value. at value lane) (c.is_kept.ensures.same c.if-is_kept.true))
    (same (c.is_kept.ensures.alone c.if-is_kept.true) ∙ sym (c.value_at-old.ensures lane within))

pub returns-then-is_kept-clause-kept : goal.returns-then-is_kept-clause-kept
returns-then-is_kept-clause-kept g c lane within =
    let at = g.V.Value.at in
    let cells = lane_bits at lane c.args.cells.now in
    let flip = c.args.flip.now in
    let old = at c.value_at-old.result lane in
    let left = cond (cell_at cells flip.reset) flip.set (bit_of flip.table (number_of (map (cell_at cells) (inputs flip)))) in
    let value = c.select-value.ensures lane within ∙ ap₂ (λ e v. cond e v old) (c.value_at-enable.ensures lane within) (c.next_value.ensures lane within) in
    kept-even cells flip (sym (c.value_at-old.ensures lane within)) (sym value ∙ ap (λ v. at v lane) (c.is_kept.ensures.same c.if-is_kept.true))
