use Rattle.std.proofs.Common.{◌≡◌, ◌+◌, suc, List, Bool, ap, ap₂, arith, cond, refl, set, ◌∙◌}
use Rattle.std.proofs.lemmas.Bool.{eq-eqb, ne_eqb}
use Rattle.vlog_engine.specs.Changes.{with_word}
use Rattle.vlog_engine.specs.Lanes.{lane_bits}
use Rattle.vlog_engine.proofs.parts.write_word.Goals as goal

pub loop-k-preserved : goal.loop-k-preserved
loop-k-preserved g c =
    let at = g.V.Value.at in
    let lane = c.args.lane in
    let cell = c.args.from + c.loop-k.k in
    let next : suc c.loop-k.k ≡ c.loop-k.k + 1 = omega arith in
    let cells : List Bool = lane_bits at lane c.loop-k.cells in
    record {
      own = c.write_lanes.ensures.cells lane c.requires.within
          ∙ ap (λ b. cond b (set cells cell (at c.every.result lane)) cells) (c.only.ensures lane c.requires.within ∙ eq-eqb lane lane refl)
          ∙ ap₂ (λ (list : List Bool) (bit : Bool). set list cell bit) c.loop-k.invariant.own (c.every.ensures lane c.requires.within ∙ c.bit_of.ensures)
          ∙ ap (with_word (lane_bits at lane c.args.cells.now) c.args.from c.args.word) next;
      others = λ other within apart.
          c.write_lanes.ensures.cells other within
          ∙ ap (λ b. cond b (set (lane_bits at other c.loop-k.cells) cell (at c.every.result other)) (lane_bits at other c.loop-k.cells)) (c.only.ensures other within ∙ ne_eqb other lane apart)
          ∙ c.loop-k.invariant.others other within apart;
      tracked = λ other gates read tracked. c.write_lanes.ensures.tracked other gates read (c.loop-k.invariant.tracked other gates read tracked);
    }
