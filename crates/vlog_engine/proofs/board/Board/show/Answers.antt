use Rattle.std.proofs.Common.{List, [], ap, arith, cond, length, refl, ◌∙◌}
use Rattle.std.specs.Prelude.{map}
use Rattle.std.proofs.lemmas.List.{length-map, with_items_is}
use Rattle.vlog_semantics.specs.declared.plan.Operand.{Operand}
use Rattle.vlog_semantics.specs.Steps.{operand_value}
use Rattle.vlog_engine.specs.Lanes.{lane_bits}
use Rattle.vlog_engine.specs.Resolved.{resolved}
use Rattle.vlog_engine.proofs.board.Board.show.Goals as goal

pub write_outputs-requires : goal.write_outputs-requires
write_outputs-requires g c =
    let r = c.args.self.now in
    omega (
      arith,
      ap length c.deref_mut.ensures.value,
      r.outputs.ok.0,
      r.outputs_room,
      r.layout.plan.outputs.ok.0,
      ap (λ (list : List Operand). length list) c.deref.ensures.value,
      ap (λ (list : List Operand). length list) r.circuit_is.outputs,
      length-map r.layout.plan.outputs.items (resolved r.circuit.bits r.next_words.len r.circuit.roots.items),
    )

pub returns-clause-same : goal.returns-clause-same
returns-clause-same g c = record { layout = refl; circuit = refl; words_room = refl }

pub returns-clause-shown : goal.returns-clause-shown
returns-clause-shown g c lane within =
    let at = g.V.Value.at in
    let active = at c.args.active lane in
    let r = c.args.self.now in
    let new_outputs = with_items_is r.outputs c.write_outputs.new.outputs (omega (arith, c.write_outputs.auto.outputs, r.outputs.ok.0, ap length c.deref_mut.ensures.value)) in
    record {
      outputs = ap (lane_bits at lane) new_outputs
          ∙ c.write_outputs.ensures lane within
          ∙ ap (λ (list : List Operand). cond active (map (operand_value (lane_bits at lane c.deref-2.result.now) []) list) (lane_bits at lane c.deref_mut.result.now)) c.deref.ensures.value
          ∙ ap (λ cells. cond active (map (operand_value (lane_bits at lane cells) []) r.circuit.outputs.items) (lane_bits at lane c.deref_mut.result.now)) c.deref-2.ensures.value
          ∙ ap (λ outputs. cond active (map (operand_value (lane_bits at lane r.cells.items) []) r.circuit.outputs.items) (lane_bits at lane outputs)) c.deref_mut.ensures.value;
      cells = refl;
      words = refl;
      memories = refl;
      marks = refl;
    }
