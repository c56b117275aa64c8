use Rattle.std.proofs.Common.{◌≡◌, ◌+◌, ◌-◌, ◌*◌, ◌/◌, ◌%◌, ◌<◌, ℕ, List, false, ap, ap₂, arith, get_or, inl, inr, refl, sym, ◌∙◌}
use Rattle.std.proofs.lemmas.Bool.{cases_lt}
use Rattle.vlog_semantics.specs.Cells.{part_at}
use Rattle.vlog_semantics.specs.Values.{bit_of}
use Rattle.vlog_engine.specs.Lanes.{lane_bits}
use Rattle.vlog_engine.proofs.parts.write_words.Goals as goal

part-of : (words : List ℕ) (place k part : ℕ) → part ≡ 16 * place + k → k < 16 → part_at words part ≡ bit_of (get_or words place 0) k
part-of words place k part is inside =
    let quotient : part / 16 ≡ place = omega arith in
    let remainder : part % 16 ≡ k = omega arith in
    ap₂ (λ w b. bit_of (get_or words w 0) b) quotient remainder

pub loop-place-init : goal.loop-place-init
loop-place-init g c = record {
  parts = λ were part inside. ((λ below. absurd (omega (arith, below))), (λ above. were part (omega (arith, inside, c.requires.count))));
  same = λ cell out. refl;
  others = λ other within apart. refl;
  tracked = λ other gates read tracked. tracked;
}

pub loop-place-preserved : goal.loop-place-preserved
loop-place-preserved g c =
    let p = c.loop-place.place in
    let from = c.args.from in
    record {
      parts = λ were part inside.
          let known = c.loop-place.invariant.parts were in
          let here : (k : ℕ) → k < 16 → get_or (lane_bits g.V.Value.at c.args.lane c.exchange_word.new.cells) (from + 16 * p + k) false ≡ bit_of c.word_at-in-loop-place.result k =
          c.exchange_word.ensures.parts (λ k small.
          let sum : from + 16 * p + k ≡ from + (16 * p + k) = omega arith in
          ap (λ i. get_or (lane_bits g.V.Value.at c.args.lane c.loop-place.cells) i false) sum
          ∙ (known (16 * p + k) (omega (arith, small))).1 (omega arith)
          ∙ part-of c.args.before.now p k (16 * p + k) refl small
          ∙ ap (λ w. bit_of w k) (sym c.word_at.ensures)) in (
            (λ below.
                elim (cases_lt part (16 * p)) [
                  | inl done ↦ c.exchange_word.ensures.same (from + part) (λ less. omega (arith, done)) ∙ (known part inside).0 done
                  | inr new ↦
                      let k : ℕ = part - 16 * p in
                      let sum : from + part ≡ from + 16 * p + k = omega arith in
                      ap (λ i. get_or (lane_bits g.V.Value.at c.args.lane c.exchange_word.new.cells) i false) sum ∙ here k (omega (arith, below, new))
                      ∙ ap (λ w. bit_of w k) c.word_at-in-loop-place.ensures ∙ sym (part-of c.args.words.now p k part (omega (arith, new)) (omega (arith, below, new)))
                ]),
            (λ above. c.exchange_word.ensures.same (from + part) (λ less. absurd (omega (arith, less, above))) ∙ (known part inside).1 (omega (arith, above))),
          );
      same = λ cell out.
          c.exchange_word.ensures.same cell (λ less. let early : cell < from = out (omega (arith, less)) in omega (arith, early)) ∙ c.loop-place.invariant.same cell out;
      others = λ other within apart. c.exchange_word.ensures.others other within apart ∙ c.loop-place.invariant.others other within apart;
      tracked = λ other gates read tracked. c.exchange_word.ensures.tracked other gates read (c.loop-place.invariant.tracked other gates read tracked);
    }

pub returns-clause-parts : goal.returns-clause-parts
returns-clause-parts g c were part inside = (c.loop-place.invariant.parts were part inside).0 (omega (arith, inside))
