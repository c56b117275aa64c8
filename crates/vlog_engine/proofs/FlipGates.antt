-- Flip-flops that are watched: when one leaves its register as it is.
use Rattle.std.proofs.Common.{◌≡◌, ◌≢◌, ℕ, zero, suc, ◌+◌, ◌-◌, ◌<◌, ◌≤◌, Bool, true, false, cond, List, [], ◌∷◌, Option, Some, None, ap, arith, inl, inr, fold, length, refl, subst, sym, take, ◌∙◌}
use Rattle.std.specs.Prelude.{IfNone, IfSome, map}
use Rattle.std.specs.List.{range_with_len}
use Rattle.std.proofs.lemmas.Bool.{cases_Bool, cases_eq}
use Rattle.std.proofs.lemmas.List.{get_or-map}
use Rattle.std.proofs.lemmas.List.FromFn.{get_or-range_with_len, length-range_with_len}
use Rattle.vlog_semantics.proofs.Numbers.{number_of-lt}
use Rattle.vlog_semantics.specs.Cells.{cell_at, gate_value}
use Rattle.vlog_semantics.specs.Steps.{SlotEdges, flip_slot, is_at}
use Rattle.vlog_semantics.specs.Values.{bit_of, number_of}
use Rattle.vlog_semantics.specs.declared.gates.Gate.{Gate}
use Rattle.vlog_semantics.specs.declared.plan.FlipFlop.{FlipFlop}
use Rattle.vlog_engine.specs.declared.flips.Flip.{Flip}
use Rattle.vlog_engine.specs.Changes.{step_in}
use Rattle.vlog_engine.specs.Flips.{AreAt, flip_flop, flip_flops, flip_gate, flip_in, flip_table, inputs, left_at, left_bit, no_flip}
use Rattle.vlog_engine.specs.Marks.{IsEven, IsTracked, gate_at, is_marked}
use Rattle.vlog_engine.proofs.Bits.{bit-number, no-both}
use Rattle.vlog_engine.proofs.Flipped.{flip-keeps, fold-flips}

-- ---- the table of a flip-flop

table-at : (flip : Flip) (index : ℕ) → index < 128 → bit_of (flip_table flip) index ≡ left_at flip index
unfolding flip_table
table-at flip index few =
    let same : 0 + index ≡ index = omega arith in
    bit-number (map (left_at flip) (range_with_len 0 128)) index
    ∙ get_or-map (left_at flip) (range_with_len 0 128) index 0 false (omega (arith, few, length-range_with_len 0 128))
    ∙ ap (left_at flip) (get_or-range_with_len 0 128 index 0 few ∙ same)

-- by the bits that spell the index
table-of : (flip : Flip) (e r t a b c d : Bool) → bit_of (flip_table flip) (number_of (e ∷ r ∷ t ∷ a ∷ b ∷ c ∷ d ∷ [])) ≡ left_bit flip e r t (a ∷ b ∷ c ∷ d ∷ [])
table-of flip e r t a b c d =
    let bits : List Bool = e ∷ r ∷ t ∷ a ∷ b ∷ c ∷ d ∷ [] in
    let n : ℕ = number_of bits in
    table-at flip n (number_of-lt bits)
    ∙ ap (λ x. left_bit flip x (bit_of n 1) (bit_of n 2) (bit_of n 3 ∷ bit_of n 4 ∷ bit_of n 5 ∷ bit_of n 6 ∷ [])) (bit-number bits 0)
    ∙ ap (λ x. left_bit flip e x (bit_of n 2) (bit_of n 3 ∷ bit_of n 4 ∷ bit_of n 5 ∷ bit_of n 6 ∷ [])) (bit-number bits 1)
    ∙ ap (λ x. left_bit flip e r x (bit_of n 3 ∷ bit_of n 4 ∷ bit_of n 5 ∷ bit_of n 6 ∷ [])) (bit-number bits 2)
    ∙ ap (λ x. left_bit flip e r t (x ∷ bit_of n 4 ∷ bit_of n 5 ∷ bit_of n 6 ∷ [])) (bit-number bits 3)
    ∙ ap (λ x. left_bit flip e r t (a ∷ x ∷ bit_of n 5 ∷ bit_of n 6 ∷ [])) (bit-number bits 4)
    ∙ ap (λ x. left_bit flip e r t (a ∷ b ∷ x ∷ bit_of n 6 ∷ [])) (bit-number bits 5)
    ∙ ap (λ x. left_bit flip e r t (a ∷ b ∷ c ∷ x ∷ [])) (bit-number bits 6)

-- the value of the wire is what an edge leaves
pub flip-value : (cells : List Bool) (flip : Flip) → gate_value cells (flip_gate flip)
    ≡ left_bit flip (cell_at cells flip.enable) (cell_at cells flip.reset) (cell_at cells flip.target) (map (cell_at cells) (inputs flip))
flip-value cells flip = table-of flip (cell_at cells flip.enable) (cell_at cells flip.reset) (cell_at cells flip.target) (cell_at cells flip.a) (cell_at cells flip.b) (cell_at cells flip.c) (cell_at cells flip.d)

-- ---- flip-flops that leave their registers as they are

-- one that would give its register the bit that it has is up to date
pub kept-even : (cells : List Bool) (flip : Flip) {old : Bool} → cell_at cells flip.target ≡ old
    → cond (cell_at cells flip.enable) (cond (cell_at cells flip.reset) flip.set (bit_of flip.table (number_of (map (cell_at cells) (inputs flip))))) old ≡ old → IsEven cells (flip_gate flip)
kept-even cells flip is same =
    sym (flip-value cells flip
    ∙ ap (cond (cell_at cells flip.enable) (cond (cell_at cells flip.reset) flip.set (bit_of flip.table (number_of (map (cell_at cells) (inputs flip)))))) is ∙ same ∙ sym is)

even-keeps : (active : Bool) (slots : SlotEdges) (cells next : List Bool) (flip : Flip) → IsEven cells (flip_gate flip) → cell_at next flip.target ≡ cell_at cells flip.target
    → step_in active (flip_slot slots cells []) next (flip_flop flip) ≡ next
even-keeps active slots cells next flip even has =
    sym (flip-keeps active (is_at slots flip.edge) (cell_at cells flip.enable) next flip.target (cell_at cells flip.target) (cell_at cells flip.target)
    (cond (cell_at cells flip.reset) flip.set (bit_of flip.table (number_of (map (cell_at cells) (inputs flip)))))
    (even ∙ flip-value cells flip) refl has)

-- so does one in a lane that isn't active, or that is up to date
rests : (active : Bool) (slots : SlotEdges) (cells next : List Bool) (flip : Flip) → (active ≡ true → IsEven cells (flip_gate flip)) → cell_at next flip.target ≡ cell_at cells flip.target
    → step_in active (flip_slot slots cells []) next (flip_flop flip) ≡ next
rests true slots cells next flip even has = even-keeps true slots cells next flip (even refl) has
rests false slots cells next flip even has = refl

-- flip-flops from one on that all do so
pub flips-passed : (active : Bool) (slots : SlotEdges) (cells next : List Bool) (flips : List Flip) (from more : ℕ) → from + more ≤ length flips
    → ((i : ℕ) → from ≤ i → i < from + more → active ≡ true → IsEven cells (flip_gate (flip_in flips i)))
    → ((i : ℕ) → from ≤ i → i < from + more → cell_at (fold (step_in active (flip_slot slots cells [])) next (flip_flops (take from flips))) (flip_in flips i).target ≡ cell_at cells (flip_in flips i).target)
    → fold (step_in active (flip_slot slots cells [])) next (flip_flops (take (from + more) flips)) ≡ fold (step_in active (flip_slot slots cells [])) next (flip_flops (take from flips))
flips-passed active slots cells next flips from zero within even same =
    let end : from + 0 ≡ from = omega arith in
    ap (λ n. fold (step_in active (flip_slot slots cells [])) next (flip_flops (take n flips))) end
flips-passed active slots cells next flips from (suc more) within even same =
    let step : List Bool → FlipFlop → List Bool = step_in active (flip_slot slots cells []) in
    let end : from + suc more ≡ from + more + 1 = omega arith in
    let earlier = flips-passed active slots cells next flips from more (omega (arith, within)) (λ i low high. even i low (omega (arith, high))) (λ i low high. same i low (omega (arith, high))) in
    ap (λ n. fold step next (flip_flops (take n flips))) end
    ∙ fold-flips step next flips (from + more) no_flip (omega (arith, within))
    ∙ ap (λ state. step state (flip_flop (flip_in flips (from + more)))) earlier
    ∙ rests active slots cells (fold step next (flip_flops (take from flips))) (flip_in flips (from + more)) (even (from + more) (omega arith) (omega arith)) (same (from + more) (omega arith) (omega arith))

pub flips-between : (active : Bool) (slots : SlotEdges) (cells next : List Bool) (flips : List Flip) (from end : ℕ) → from ≤ end → end ≤ length flips
    → ((i : ℕ) → from ≤ i → i < end → active ≡ true → IsEven cells (flip_gate (flip_in flips i)))
    → ((i : ℕ) → from ≤ i → i < end → cell_at (fold (step_in active (flip_slot slots cells [])) next (flip_flops (take from flips))) (flip_in flips i).target ≡ cell_at cells (flip_in flips i).target)
    → fold (step_in active (flip_slot slots cells [])) next (flip_flops (take end flips)) ≡ fold (step_in active (flip_slot slots cells [])) next (flip_flops (take from flips))
flips-between active slots cells next flips from end order within even same =
    let sum : end ≡ from + (end - from) = omega (arith, order) in
    ap (λ n. fold (step_in active (flip_slot slots cells [])) next (flip_flops (take n flips))) sum
    ∙ flips-passed active slots cells next flips from (end - from) (omega (arith, within, order)) (λ i low high. even i low (omega (arith, high, order))) (λ i low high. same i low (omega (arith, high, order)))

-- ---- marks

-- a mark that is cleared only where nothing is to be changed
pub cleared-even : {A : Type 0} {P : Type 0} (made : Option A) {old new : Bool} → IfNone made P → IfSome made (λ change. new ≡ old) → new ≡ false → old ≡ true → P
cleared-even None even kept off on = even
cleared-even (Some change) even kept off on = absurd (no-both on (sym kept ∙ off))

-- a flip-flop without a mark is up to date
pub flip-even : (first : ℕ) (flips : List Flip) (watched : List Gate) (cells : List Bool) (marks : List ℕ) (i : ℕ) → AreAt first flips watched → IsTracked watched cells marks → i < length flips
    → is_marked marks (first + i) ≡ false → IsEven cells (flip_gate (flip_in flips i))
flip-even first flips watched cells marks i at tracked within off =
    subst (IsEven cells) (at.are i within) (tracked.even (first + i) (omega (arith, at.fit, within)) off)

-- one that is up to date may lose its mark
pub tracked-cleared : (first : ℕ) (flips : List Flip) (watched : List Gate) (cells : List Bool) (marks marks_now : List ℕ) (i : ℕ) → AreAt first flips watched → i < length flips
    → length marks_now ≡ length marks → (is_marked marks_now (first + i) ≡ false → is_marked marks (first + i) ≡ true → IsEven cells (flip_gate (flip_in flips i)))
    → ((other : ℕ) → other ≢ first + i → is_marked marks_now other ≡ is_marked marks other)
    → IsTracked watched cells marks → IsTracked watched cells marks_now
tracked-cleared first flips watched cells marks marks_now i at within size own others tracked = record {
  room = omega (arith, tracked.room, size);
  even = λ place inside off.
      elim (cases_eq place (first + i)) [
        | inl same ↦
            (elim (cases_Bool (is_marked marks (first + i))) [
              | inl on ↦ subst (λ p. IsEven cells (gate_at watched p)) (sym same) (subst (IsEven cells) (sym (at.are i within)) (own (ap (is_marked marks_now) (sym same) ∙ off) on))
              | inr dark ↦ tracked.even place inside (ap (is_marked marks) same ∙ dark)
            ])
        | inr apart ↦ tracked.even place inside (sym (others place apart) ∙ off)
      ];
}
