use Rattle.std.proofs.Common.{Bool, [], ◌∷◌, ap, ap₂, cond, ◌∙◌}
use Rattle.vlog_semantics.specs.Cells.{cell_at}
use Rattle.vlog_semantics.specs.Values.{bit_of, number_of}
use Rattle.vlog_engine.specs.Lanes.{lane_bits}
use Rattle.vlog_engine.proofs.flips.next_value.Goals as goal

pub returns : goal.returns
returns g c lane within =
    let at = g.V.Value.at in
    let flip = c.args.flip.now in
    let read = cell_at (lane_bits at lane c.args.cells.now) in
    let value =
    c.of_table-value.ensures lane within
    ∙ ap₂ (λ (x y : Bool). bit_of flip.table (number_of (x ∷ y ∷ at c.value_at-c.result lane ∷ at c.value_at-d.result lane ∷ []))) (c.value_at-a.ensures lane within) (c.value_at-b.ensures lane within)
    ∙ ap₂ (λ (x y : Bool). bit_of flip.table (number_of (read flip.a ∷ read flip.b ∷ x ∷ y ∷ []))) (c.value_at-c.ensures lane within) (c.value_at-d.ensures lane within) in
    c.select.ensures lane within
    ∙ ap₂ (λ (r s : Bool). cond r s (at c.of_table-value.result lane)) (c.value_at.ensures lane within) (c.every.ensures lane within)
    ∙ ap (λ (bit : Bool). cond (cell_at (lane_bits at lane c.args.cells.now) flip.reset) flip.set bit) value
