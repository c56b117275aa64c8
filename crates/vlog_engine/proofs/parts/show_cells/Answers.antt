use Rattle.std.proofs.Common.{◌<◌, ◌+◌, ◌++◌, ◌∷◌, ℕ, [], Bool, List, ap, ap₂, arith, length, sym, take, take_all, ◌∙◌}
use Rattle.std.proofs.lemmas.List.{map_more, take_more_set}
use Rattle.vlog_semantics.specs.Cells.{cell_at}
use Rattle.vlog_engine.specs.Circuits.{shown_by}
use Rattle.vlog_engine.specs.Lanes.{lane_bits}
use Rattle.vlog_engine.proofs.Lanes.{lane-length, lane-set}
use Rattle.vlog_engine.proofs.parts.show_cells.Goals as goal

pub loop-place-preserved : goal.loop-place-preserved
loop-place-preserved g c same lane within =
    let at = g.V.Value.at in
    let place = c.loop-place.place in
    let shown = c.loop-place.shown in
    let cells : List Bool = lane_bits at lane c.args.cells.now in
    let here : place < length (lane_bits at lane shown) = omega (arith, lane-length at lane shown, same) in
    ap (take (place + 1)) (ap (lane_bits at lane) c.set_cell.ensures ∙ lane-set at lane shown place c.cell_at-value.result)
    ∙ take_more_set (lane_bits at lane shown) place (at c.cell_at-value.result lane) here
    ∙ ap₂ (λ (list : List Bool) (bit : Bool). list ++ bit ∷ []) (c.loop-place.invariant same lane within) (c.cell_at-value.ensures.bits lane within)
    ∙ sym (map_more (cell_at cells) c.args.roots.now place 0 (omega arith))

pub returns : goal.returns
returns g c same lane within =
    let at = g.V.Value.at in
    let shown = c.loop-place.shown in
    sym (take_all c.loop-place.place (lane_bits at lane shown) (omega (arith, lane-length at lane shown, same)))
    ∙ c.loop-place.invariant same lane within
    ∙ ap (λ (roots : List ℕ). shown_by roots (lane_bits at lane c.args.cells.now)) (take_all c.loop-place.place c.args.roots.now (omega arith))
