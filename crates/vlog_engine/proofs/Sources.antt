-- What a step gives the cells that aren't wires'.
use Rattle.std.proofs.Common.{◌≡◌, ℕ, ◌+◌, ◌-◌, ◌*◌, ◌<◌, ◌≤◌, Bool, true, false, cond, List, [], ◌∷◌, ◌++◌, ap, arith, flat_map, fold, get_or, inl, inr, length, ltb, refl, set, subst, sym, ◌∙◌}
use Rattle.std.specs.Prelude.{◌&&◌}
use Rattle.std.proofs.lemmas.Bool.{cases_Bool, cases_eq, ltb-false, ltb-true}
use Rattle.std.proofs.lemmas.List.{get_or-append-add, get_or-append_right, get_or-set_other, get_or-set_same, get_or_append_left, length-set}
use Rattle.vlog_semantics.specs.Cells.{cell_at, cells_of, part_at, parts_below, tail_of}
use Rattle.vlog_semantics.specs.Steps.{flip_slot, is_at, operand_value, table_value}
use Rattle.vlog_semantics.specs.declared.plan.FlipFlop.{FlipFlop}
use Rattle.vlog_semantics.proofs.Cells.{length-parts, part-in}
use Rattle.vlog_engine.specs.StepKinds.{Step, picks, pinned, slots_of}
use Rattle.vlog_engine.specs.StepKinds.Step.{at_event, at_wave}
use Rattle.vlog_engine.proofs.StepKinds.{picks-idle}
use Rattle.vlog_engine.specs.Groups.{flip_at}
use Rattle.vlog_engine.specs.Resolved.{resolved_flip}
use Rattle.vlog_engine.proofs.Operands.{Show, flip-shown}

-- the first bits of two lists are the same, and both lists have them
pub record Agree (first : ℕ) (some other : List Bool) : Type 0 where
  pub some_room : first ≤ length some
  pub other_room : first ≤ length other
  pub same : (cell : ℕ) → cell < first → cell_at some cell ≡ cell_at other cell

pub agree-set : (first : ℕ) (some other : List Bool) (cell : ℕ) (bit : Bool) → Agree first some other → Agree first (set some cell bit) (set other cell bit)
agree-set first some other cell bit agree = record {
  some_room = omega (arith, agree.some_room, length-set some cell bit);
  other_room = omega (arith, agree.other_room, length-set other cell bit);
  same = λ at inside.
      elim (cases_eq at cell) [
        | inl same ↦
            subst (λ k. cell_at (set some cell bit) k ≡ cell_at (set other cell bit) k) (sym same)
            (get_or-set_same some cell bit false (omega (arith, inside, same, agree.some_room)) ∙ sym (get_or-set_same other cell bit false (omega (arith, inside, same, agree.other_room))))
        | inr apart ↦ get_or-set_other some cell at bit false apart ∙ agree.same at inside ∙ sym (get_or-set_other other cell at bit false apart)
      ];
}

agree-past : (first : ℕ) (some other : List Bool) (cell : ℕ) (bit : Bool) → first ≤ cell → Agree first some other → Agree first some (set other cell bit)
agree-past first some other cell bit past agree = record {
  some_room = agree.some_room;
  other_room = omega (arith, agree.other_room, length-set other cell bit);
  same = λ at inside. agree.same at inside ∙ sym (get_or-set_other other cell at bit false (λ same. omega (arith, inside, same, past)));
}

pub agree-pinned : (step : Step) (first : ℕ) (some other : List Bool) → Agree first some other → Agree first (pinned step some) (pinned step other)
unfolding pinned
agree-pinned (at_event event) first some other agree = agree-set first some other event.pin event.bit agree
agree-pinned (at_wave from end earlier now) first some other agree = agree

right-true : (a b : Bool) → (a && b) ≡ true → b ≡ true
right-true true b is = is
right-true false b is = absurd cc

module _ (step : Step) (first count word_count : ℕ) (roots : List ℕ) (bits : List Bool) (words : List ℕ) (cells : List Bool) (show : Show count word_count roots bits words cells) where
  -- what a flip-flop does, over bits
  abbrev flips_to : List Bool → FlipFlop → List Bool
  flips_to next flip = flip_slot (slots_of step) bits words next flip

  flip-agrees : (some other : List Bool) (flip : FlipFlop) → Agree first some other → Agree first (flips_to some flip) (flips_to other flip)
  flip-agrees some other flip agree =
      let bit : Bool = cond (operand_value bits words flip.reset) flip.set (table_value bits words flip.table) in
      elim (is_at (slots_of step) flip.edge && operand_value bits words flip.enable) as (λ b. Agree first (cond b (set some flip.target bit) some) (cond b (set other flip.target bit) other)) [
        | true ↦ agree-set first some other flip.target bit agree
        | false ↦ agree
      ]

  flip-past : (some other : List Bool) (flip : FlipFlop) → first ≤ flip.target → Agree first some other → Agree first some (flips_to other flip)
  flip-past some other flip past agree =
      let bit : Bool = cond (operand_value bits words flip.reset) flip.set (table_value bits words flip.table) in
      elim (is_at (slots_of step) flip.edge && operand_value bits words flip.enable) as (λ b. Agree first some (cond b (set other flip.target bit) other)) [
        | true ↦ agree-past first some other flip.target bit past agree
        | false ↦ agree
      ]

  flip-idle : (other : List Bool) (flip : FlipFlop) → is_at (slots_of step) flip.edge ≡ false → other ≡ flips_to other flip
  flip-idle other flip off =
      let bit : Bool = cond (operand_value bits words flip.reset) flip.set (table_value bits words flip.table) in
      sym (ap (λ b. cond (b && operand_value bits words flip.enable) (set other flip.target bit) other) off)

  -- the first bits after the flip-flops that a step runs, and after all
  pub flips-agree : (some other : List Bool) (flips : List FlipFlop) → Agree first some other
      → Agree first (fold (flip_slot (slots_of step) cells []) some (flat_map (flip_at step first count word_count roots) flips)) (fold (flip_slot (slots_of step) bits words) other flips)
  flips-agree some other [] agree = agree
  flips-agree some other (flip ∷ flips) agree =
      let rest : List FlipFlop = flat_map (flip_at step first count word_count roots) flips in
      let Goal : Bool → Type 0 = λ b. Agree first (fold (flip_slot (slots_of step) cells []) some (cond b (resolved_flip count word_count roots flip ∷ []) [] ++ rest)) (fold (flip_slot (slots_of step) bits words) (flips_to other flip) flips) in
      elim (cases_Bool (picks step flip.edge && ltb flip.target first)) [
        | inl on ↦
            subst Goal (sym on)
            (subst (λ next. Agree first (fold (flip_slot (slots_of step) cells []) next rest) (fold (flip_slot (slots_of step) bits words) (flips_to other flip) flips)) (sym (flip-shown count word_count roots bits words cells show step some flip))
            (flips-agree (flips_to some flip) (flips_to other flip) flips (flip-agrees some other flip agree)))
        | inr off ↦
            subst Goal (sym off)
            (flips-agree some (flips_to other flip) flips
            (elim (cases_Bool (picks step flip.edge)) [
              | inl edge ↦ flip-past some other flip (ltb-false flip.target first (sym (ap (λ b. b && ltb flip.target first) edge) ∙ off)) agree
              | inr none ↦ subst (Agree first some) (flip-idle other flip (picks-idle step flip.edge none)) agree
            ]))
      ]

  -- the other cells stay
  pub flips-stay : (some : List Bool) (flips : List FlipFlop) (cell : ℕ) → first ≤ cell
      → cell_at (fold (flip_slot (slots_of step) cells []) some (flat_map (flip_at step first count word_count roots) flips)) cell ≡ cell_at some cell
  flips-stay some [] cell past = refl
  flips-stay some (flip ∷ flips) cell past =
      let rest : List FlipFlop = flat_map (flip_at step first count word_count roots) flips in
      let made : FlipFlop = resolved_flip count word_count roots flip in
      let bit : Bool = cond (operand_value cells [] made.reset) made.set (table_value cells [] made.table) in
      let Goal : Bool → Type 0 = λ b. cell_at (fold (flip_slot (slots_of step) cells []) some (cond b (made ∷ []) [] ++ rest)) cell ≡ cell_at some cell in
      elim (cases_Bool (picks step flip.edge && ltb flip.target first)) [
        | inr off ↦ subst Goal (sym off) (flips-stay some flips cell past)
        | inl on ↦
            let below : flip.target < first = ltb-true flip.target first (right-true (picks step flip.edge) (ltb flip.target first) on) in
            subst Goal (sym on)
            (flips-stay (flip_slot (slots_of step) cells [] some made) flips cell past
            ∙ (elim (is_at (slots_of step) made.edge && operand_value cells [] made.enable) as (λ b. cell_at (cond b (set some flip.target bit) some) cell ≡ cell_at some cell) [
              | true ↦ get_or-set_other some flip.target cell bit false (λ same. omega (arith, past, below, same))
              | false ↦ refl
            ]))
      ]

  pub length-flips : (some : List Bool) (flips : List FlipFlop) → length (fold (flip_slot (slots_of step) bits words) some flips) ≡ length some
  length-flips some [] = refl
  length-flips some (flip ∷ flips) =
      let bit : Bool = cond (operand_value bits words flip.reset) flip.set (table_value bits words flip.table) in
      length-flips (flips_to some flip) flips
      ∙ (elim (is_at (slots_of step) flip.edge && operand_value bits words flip.enable) as (λ b. length (cond b (set some flip.target bit) some) ≡ length some) [
        | true ↦ length-set some flip.target bit
        | false ↦ refl
      ])

-- ---- the cells after those of names

-- the bits of words, 0 and 1 in a list
pub tail-part : (words : List ℕ) (place : ℕ) → place < 16 * length words → get_or (tail_of words) place false ≡ part_at words place
tail-part words place inside =
    get_or_append_left (parts_below words (16 * length words)) (false ∷ true ∷ []) false place (omega (arith, inside, length-parts words (16 * length words)))
    ∙ part-in words (16 * length words) place inside

pub tail-end : (words : List ℕ) (place : ℕ) → 16 * length words ≤ place → get_or (tail_of words) place false ≡ get_or (false ∷ true ∷ []) (place - 16 * length words) false
tail-end words place past =
    get_or-append_right (parts_below words (16 * length words)) (false ∷ true ∷ []) (16 * length words) place false (length-parts words (16 * length words)) past

-- cells that show bits and words have those of inputs and registers, and those of words
pub rest-cells : (bits : List Bool) (words : List ℕ) (place : ℕ) → cell_at (cells_of bits words) (length bits + place) ≡ get_or (tail_of words) place false
rest-cells bits words place = get_or-append-add bits (tail_of words) place false
