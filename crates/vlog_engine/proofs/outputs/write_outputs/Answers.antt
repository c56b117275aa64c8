use Rattle.std.proofs.Common.{◌≡◌, ◌<◌, [], Bool, List, false, arith, ap, ap₂, cond, length, sym, ◌∙◌}
use Rattle.std.specs.Prelude.{map}
use Rattle.std.proofs.lemmas.List.{get_or-map, length-map}
use Rattle.vlog_semantics.specs.declared.plan.Operand.{Operand}
use Rattle.vlog_semantics.specs.declared.plan.Operand.TheVariants.{Constant}
use Rattle.vlog_semantics.specs.Steps.{operand_value}
use Rattle.vlog_engine.specs.Lanes.{lane_bits}
use Rattle.vlog_engine.proofs.Lanes.{lane-length, lane-set}
use Rattle.vlog_engine.proofs.Merged.{merge-all, merge-none, merge-step}
use Rattle.vlog_engine.proofs.outputs.write_outputs.Goals as goal

pub loop-place-init : goal.loop-place-init
loop-place-init g c = record {
  lanes = λ lane within. merge-none (g.V.Value.at c.args.active lane) (map (operand_value (lane_bits g.V.Value.at lane c.args.cells.now) []) c.args.operands.now) (lane_bits g.V.Value.at lane c.args.outputs.now);
  room = c.requires;
}

pub loop-place-preserved : goal.loop-place-preserved
loop-place-preserved g c = record {
  lanes = λ lane within.
      let at = g.V.Value.at in
      let place = c.loop-place.place in
      let active = at c.args.active lane in
      let operands = c.args.operands.now in
      let value : Operand → Bool = operand_value (lane_bits at lane c.args.cells.now) [] in
      let from : List Bool = map value operands in
      let now = c.loop-place.outputs in
      let old = c.args.outputs.now in
      let early : place < length operands = omega (arith, c.loop-place.invariant.room) in
      let same : length from ≡ length (lane_bits at lane old) = omega (arith, length-map operands value, lane-length at lane old, c.requires) in
      let here : place < length from = omega (arith, length-map operands value, early) in
      ap (lane_bits at lane) c.set_cell.ensures ∙ lane-set at lane now place c.select-value.result
      ∙ merge-step active (at c.select-value.result lane) from (lane_bits at lane old) (lane_bits at lane now) place same here
      (c.loop-place.invariant.lanes lane within)
      (c.select-value.ensures lane within
      ∙ ap₂ (λ (x y : Bool). cond active x y) (c.operand_at.ensures lane within ∙ sym (get_or-map value operands place (Constant false) false early)) (c.cell_at.ensures.bits lane within));
  room = c.set_cell.auto.cells ∙ c.loop-place.invariant.room;
}

pub returns : goal.returns
returns g c lane within =
    let at = g.V.Value.at in
    let operands = c.args.operands.now in
    let value : Operand → Bool = operand_value (lane_bits at lane c.args.cells.now) [] in
    let old = c.args.outputs.now in
    c.loop-place.invariant.lanes lane within
    ∙ merge-all (at c.args.active lane) (map value operands) (lane_bits at lane old) c.loop-place.place
    (omega (arith, length-map operands value, c.loop-place.invariant.room)) (omega (arith, length-map operands value, lane-length at lane old, c.requires))
