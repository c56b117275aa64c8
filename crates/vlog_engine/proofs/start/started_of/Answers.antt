use Rattle.std.proofs.Common.{◌≡◌, List, [], ap, ap₂, arith, length, replicate, ◌∙◌}
use Rattle.std.specs.Prelude.{map}
use Rattle.std.proofs.lemmas.List.{length-map}
use Rattle.vlog_semantics.specs.declared.plan.Operand.{Operand}
use Rattle.vlog_semantics.specs.Steps.{operand_value}
use Rattle.vlog_engine.specs.Lanes.{lane_bits}
use Rattle.vlog_engine.specs.Resolved.{resolved}
use Rattle.vlog_engine.proofs.Lists.{copied-at, copied-lanes, copied-length}
use Rattle.vlog_engine.proofs.start.started_of.Goals as goal

pub returns : goal.returns
returns g c =
    let at = g.V.Value.at in
    let lanes = g.V.Value.LANES in
    let wires = c.in_ok-wires.wires in
    let known = c.in_ok-wires.ensures in
    let words = c.args.words.now in
    let memories = c.args.memories.now in
    let operands : List Operand = wires.circuit.outputs.items in
    let words_from : map (λ each. each.items) c.in_ok-words.words.items ≡ replicate lanes words =
    c.in_ok-words.ensures ∙ ap (λ n. replicate n words) c.LANES.ensures in
    let memories_from : map (λ each. each.items) c.in_ok-memories.memories.items ≡ replicate lanes memories =
    c.in_ok-memories.ensures ∙ ap (λ n. replicate n memories) c.LANES-2.ensures in
    let read : c.deref.result.now ≡ operands = c.deref.ensures.value in
    record {
      wires = known.started;
      outputs = λ lane within.
          c.in_ok-outputs.ensures.lanes lane within
          ∙ ap₂ (λ (list : List Operand) cells. map (operand_value (lane_bits at lane cells) []) list) read c.deref-2.ensures.value;
      outputs_room = c.in_ok-outputs.ensures.count ∙ ap (λ (list : List Operand). length list) (read ∙ known.started.circuit.outputs)
          ∙ length-map c.args.layout.now.plan.outputs.items (resolved (length c.args.bits.now) (length words) wires.circuit.roots.items);
      words_are = λ lane within. copied-at lanes c.in_ok-words.words.items words lane words_from within;
      lanes_are = copied-lanes lanes c.in_ok-words.words.items words words_from known.sixteen_bits;
      memories_are = λ lane within. copied-at lanes c.in_ok-memories.memories.items memories lane memories_from within;
      memory_lanes = copied-length lanes c.in_ok-memories.memories.items memories memories_from;
      writes_room = omega (arith, c.in_ok-written.ensures.len, c.len.ensures, c.in_ok-written.written.ok.0, c.args.layout.now.plan.writes.ok.0);
      sixteen_bits = known.sixteen_bits;
    }
