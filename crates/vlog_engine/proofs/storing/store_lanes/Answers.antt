use Rattle.std.proofs.Common.{◌≡◌, ◌<◌, arith, inl, inr, refl, subst, sym, ◌∙◌}
use Rattle.std.proofs.lemmas.Bool.{cases_lt}
use Rattle.vlog_engine.specs.Lanes.{AreLanes, lane_bits, list_of}
use Rattle.vlog_engine.specs.Passing.{IsStored}
use Rattle.vlog_engine.proofs.Stored.{stored-like}
use Rattle.vlog_engine.specs.Triggers.{step_by}
use Rattle.vlog_engine.proofs.storing.store_lanes.Goals as goal

pub loop-lane-init : goal.loop-lane-init
loop-lane-init g c = record {
  done = λ other below. absurd (omega (arith, below));
  rest_words = λ other past. refl;
  rest_memories = λ other past. refl;
  rest_cells = λ other past within. refl;
  lanes = c.requires.words;
  memory_lanes = c.requires.memories;
  cells_room = refl;
  words_room = refl;
  writes_room = refl;
  tracked = λ other gates read tracked. tracked;
}

pub loop-lane-preserved : goal.loop-lane-preserved
loop-lane-preserved g c =
    let at = g.V.Value.at in
    let known = c.loop-lane.invariant in
    let lane = c.loop-lane.lane in
    let here : lane < g.V.Value.LANES = omega arith in
    record {
      done = λ other below.
          elim (cases_lt other lane) [
            | inl before ↦
                let apart : (other ≡ lane → ⊥) = λ same. omega (arith, same, before) in
                stored-like (at c.args.trigger.now.active other) c.args.trigger.now.bits (step_by c.args.trigger.now.cause (lane_bits at other c.args.trigger.now.earlier.now) (lane_bits at other c.args.cells.now)) c.args.trigger.now.group.now (list_of other c.args.words.now) (list_of other c.args.words.now) (list_of other c.loop-lane.words) (list_of other c.store_lane.new.words)
                (list_of other c.args.memories.now) (list_of other c.args.memories.now) (list_of other c.loop-lane.memories) (list_of other c.store_lane.new.memories)
                (lane_bits at other c.args.cells.now) (lane_bits at other c.args.cells.now) (lane_bits at other c.loop-lane.cells) (lane_bits at other c.store_lane.new.cells)
                (known.done other before) refl (sym (c.store_lane.ensures.other_words other apart)) refl (sym (c.store_lane.ensures.other_memories other apart)) refl
                (sym (c.store_lane.ensures.other_cells other (omega (arith, before)) apart))
            | inr past ↦
                let same : lane ≡ other = omega (arith, below, past) in
                subst (λ k. IsStored (at c.args.trigger.now.active k) c.args.trigger.now.bits (step_by c.args.trigger.now.cause (lane_bits at k c.args.trigger.now.earlier.now) (lane_bits at k c.args.cells.now)) c.args.trigger.now.group.now (list_of k c.args.words.now) (list_of k c.store_lane.new.words) (list_of k c.args.memories.now) (list_of k c.store_lane.new.memories)
                (lane_bits at k c.args.cells.now) (lane_bits at k c.store_lane.new.cells)) same
                (stored-like (at c.args.trigger.now.active lane) c.args.trigger.now.bits (step_by c.args.trigger.now.cause (lane_bits at lane c.args.trigger.now.earlier.now) (lane_bits at lane c.args.cells.now)) c.args.trigger.now.group.now (list_of lane c.args.words.now) (list_of lane c.loop-lane.words) (list_of lane c.store_lane.new.words) (list_of lane c.store_lane.new.words)
                (list_of lane c.args.memories.now) (list_of lane c.loop-lane.memories) (list_of lane c.store_lane.new.memories) (list_of lane c.store_lane.new.memories)
                (lane_bits at lane c.args.cells.now) (lane_bits at lane c.loop-lane.cells) (lane_bits at lane c.store_lane.new.cells) (lane_bits at lane c.store_lane.new.cells)
                (subst (λ now. IsStored (at c.args.trigger.now.active lane) c.args.trigger.now.bits (step_by c.args.trigger.now.cause (lane_bits at lane c.args.trigger.now.earlier.now) now) c.args.trigger.now.group.now (list_of lane c.loop-lane.words) (list_of lane c.store_lane.new.words) (list_of lane c.loop-lane.memories) (list_of lane c.store_lane.new.memories)
                (lane_bits at lane c.loop-lane.cells) (lane_bits at lane c.store_lane.new.cells)) (known.rest_cells lane (omega arith) here) c.store_lane.ensures.stored) (known.rest_words lane (omega arith)) refl (known.rest_memories lane (omega arith)) refl (known.rest_cells lane (omega arith) here) refl)
          ];
      rest_words = λ other past. c.store_lane.ensures.other_words other (λ same. omega (arith, same, past)) ∙ known.rest_words other (omega (arith, past));
      rest_memories = λ other past. c.store_lane.ensures.other_memories other (λ same. omega (arith, same, past)) ∙ known.rest_memories other (omega (arith, past));
      rest_cells = λ other past within. c.store_lane.ensures.other_cells other within (λ same. omega (arith, same, past)) ∙ known.rest_cells other (omega (arith, past)) within;
      lanes = subst (λ count. AreLanes g.V.Value.LANES count c.store_lane.new.words) known.words_room c.store_lane.ensures.lanes;
      memory_lanes = c.store_lane.auto.memories ∙ known.memory_lanes;
      cells_room = c.store_lane.auto.cells ∙ known.cells_room;
      words_room = c.store_lane.auto.next_words ∙ known.words_room;
      writes_room = c.store_lane.auto.written ∙ known.writes_room;
      tracked = λ other gates read tracked. c.store_lane.ensures.tracked other gates read (known.tracked other gates read tracked);
    }

pub store_lane-requires-clause-words : goal.store_lane-requires-clause-words
store_lane-requires-clause-words g c =
    subst (λ count. AreLanes g.V.Value.LANES count c.loop-lane.words) (sym c.loop-lane.invariant.words_room) c.loop-lane.invariant.lanes

pub returns-clause-stored : goal.returns-clause-stored
returns-clause-stored g c lane within = c.loop-lane.invariant.done lane (omega (arith, within))
