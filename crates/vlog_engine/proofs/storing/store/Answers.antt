use Rattle.std.proofs.Common.{◌≡◌, arith, subst, sym, ◌∙◌}
use Rattle.vlog_engine.specs.Circuits.{ArePartsAt}
use Rattle.vlog_engine.specs.Lanes.{lane_bits}
use Rattle.vlog_engine.proofs.Lanes.{lane-length}
use Rattle.vlog_engine.proofs.storing.store.Goals as goal

pub returns-clause-stored : goal.returns-clause-stored
returns-clause-stored g c =
    let at = g.V.Value.at in
    let lane = c.args.lane in
    let copied : c.copy_words.new.to ≡ c.run_memories.new.next_words = c.copy_words.ensures (omega arith) in
    record {
      words_are = copied ∙ c.run_memories.ensures.words;
      memories_are = c.run_memories.ensures.memories;
      size = lane-length at lane c.write_words.new.cells ∙ c.write_words.auto.cells ∙ sym (lane-length at lane c.args.cells.now);
      parts = λ were. subst (λ words. ArePartsAt c.args.trigger.now.bits words (lane_bits at lane c.write_words.new.cells)) (sym copied) (c.write_words.ensures.parts were);
      same = λ cell out. c.write_words.ensures.same cell (λ less. out (omega (arith, less)));
      idle = λ off. absurd cc;
    }

pub returns-clause-sixteen_bits : goal.returns-clause-sixteen_bits
returns-clause-sixteen_bits g c place = omega (arith, c.type_inv.words place)
