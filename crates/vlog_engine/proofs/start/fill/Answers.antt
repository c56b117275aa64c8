use Rattle.std.proofs.Common.{◌<◌, ◌+◌, ◌++◌, ◌∷◌, [], Bool, List, ap, ap₂, arith, length, sym, take, take_all, ◌∙◌}
use Rattle.std.proofs.lemmas.List.{take_more, take_more_set}
use Rattle.vlog_engine.specs.Lanes.{lane_bits}
use Rattle.vlog_engine.proofs.Lanes.{lane-length, lane-set}
use Rattle.vlog_engine.proofs.start.fill.Goals as goal

pub loop-place-preserved : goal.loop-place-preserved
loop-place-preserved g c = record {
  lanes = λ lane within.
      let at = g.V.Value.at in
      let place = c.loop-place.place in
      let values = c.loop-place.values in
      let bits = c.args.bits.now in
      let here : place < length (lane_bits at lane values) = omega (arith, lane-length at lane values, c.loop-place.invariant.room) in
      ap (take (place + 1)) (ap (lane_bits at lane) c.set_cell.ensures ∙ lane-set at lane values place c.every.result)
      ∙ take_more_set (lane_bits at lane values) place (at c.every.result lane) here
      ∙ ap₂ (λ (list : List Bool) (bit : Bool). list ++ bit ∷ []) (c.loop-place.invariant.lanes lane within) (c.every.ensures lane within)
      ∙ sym (take_more bits place _ (omega (arith, here, lane-length at lane values, c.loop-place.invariant.room)));
  room = c.set_cell.auto.cells ∙ c.loop-place.invariant.room;
}

pub returns : goal.returns
returns g c lane within =
    let at = g.V.Value.at in
    let values = c.loop-place.values in
    sym (take_all c.loop-place.place (lane_bits at lane values) (omega (arith, lane-length at lane values, c.loop-place.invariant.room)))
    ∙ c.loop-place.invariant.lanes lane within
    ∙ take_all c.loop-place.place c.args.bits.now (omega arith)
