use Rattle.std.proofs.Common.{◌≡◌, ◌<◌, ◌≤◌, ◌+◌, ◌-◌, ℕ, Bool, List, [], ap, arith, fold, length, refl, sym, subst, take, ◌∙◌}
use Rattle.std.specs.Prelude.{IfSome}
use Rattle.std.proofs.lemmas.List.{take_all}
use Rattle.std.proofs.lemmas.List.Elements.{All-get_or}
use Rattle.vlog_semantics.specs.Cells.{cell_at}
use Rattle.vlog_semantics.specs.Steps.{flip_slot}
use Rattle.vlog_semantics.specs.declared.gates.Gate.{Gate}
use Rattle.vlog_engine.specs.declared.flips.Flip.{Flip}
use Rattle.vlog_engine.specs.Changes.{change_slot, changed_by, step_in}
use Rattle.vlog_engine.specs.Flips.{AreAt, flip_flops, flip_in, no_flip}
use Rattle.vlog_engine.specs.Lanes.{lane_bits}
use Rattle.vlog_engine.specs.Marks.{IsTracked, is_marked}
use Rattle.vlog_engine.specs.StepKinds.{slots_of}
use Rattle.vlog_engine.specs.Triggers.{step_by}
use Rattle.vlog_engine.proofs.FlipGates.{cleared-even, flip-even, flips-between, tracked-cleared}
use Rattle.vlog_engine.proofs.Flipped.{change-apart, fold-flips}
use Rattle.vlog_engine.proofs.flips.note_marked.Goals as goal

pub loop-place-init : goal.loop-place-init
loop-place-init g c =
    let at = g.V.Value.at in
    let first = c.args.first in
    let flips = c.args.flips.now in
    record {
      low = c.next_marked-place.ensures.past;
      high = c.next_marked-place.ensures.last;
      count = omega (arith, c.next_marked-place.ensures.past);
      tracked = λ lane watched within are tracked. tracked;
      noted = λ lane watched next within are known same.
          let cells = lane_bits at lane c.args.cells.now in
          sym (flips-between (at c.args.trigger.now.active lane) (slots_of (step_by c.args.trigger.now.cause (lane_bits at lane c.args.trigger.now.earlier.now) cells)) cells next flips 0 (c.next_marked-place.result - first)
          (omega arith) (omega (arith, c.next_marked-place.ensures.last, c.next_marked-place.ensures.past))
          (λ i low high on. flip-even first flips watched cells c.args.marks.now i are (known on) (omega (arith, high, c.next_marked-place.ensures.last, c.next_marked-place.ensures.past))
          (c.next_marked-place.ensures.none (first + i) (omega arith) (omega (arith, high, c.next_marked-place.ensures.past))))
          (λ i low high. same (flip_in flips i).target (All-get_or (λ (flip : Flip). flip.target < c.args.trigger.now.bits) flips i no_flip (omega (arith, high, c.next_marked-place.ensures.last, c.next_marked-place.ensures.past)) c.requires.targets)));
      fresh = λ lane other next past inside. refl;
    }

pub loop-place-preserved : goal.loop-place-preserved
loop-place-preserved g c =
    let at = g.V.Value.at in
    let first = c.args.first in
    let flips = c.args.flips.now in
    let inv = c.loop-place.invariant in
    let place = c.loop-place.place in
    let i : ℕ = place - first in
    let here : first + i ≡ place = omega (arith, inv.low) in
    let inside : i < length flips = omega (arith, inv.low, inv.high) in
    let made = c.flip_change-made.result in
    let marks = c.clear_kept.new.marks in
    let last = c.next_marked-place-in-loop-place.result in
    let past : place + 1 ≤ last = c.next_marked-place-in-loop-place.ensures.past in
    let end : last ≤ first + length flips = c.next_marked-place-in-loop-place.ensures.last in
    let target = (flip_in flips i).target in
    let below : (j : ℕ) → j < length flips → (flip_in flips j).target < c.args.trigger.now.bits =
    λ j within. All-get_or (λ (flip : Flip). flip.target < c.args.trigger.now.bits) flips j no_flip within c.requires.targets in
    let tracked : (lane : ℕ) (watched : List Gate) → lane < g.V.Value.LANES → AreAt first flips watched → IsTracked watched (lane_bits at lane c.args.cells.now) c.args.marks.now
    → IsTracked watched (lane_bits at lane c.args.cells.now) marks =
    λ lane watched within are known.
    tracked-cleared first flips watched (lane_bits at lane c.args.cells.now) c.loop-place.marks marks i are inside c.clear_kept.auto.marks
    (λ off on. cleared-even made c.flip_change-made.ensures.kept (subst (λ p. IfSome made (λ change. is_marked marks p ≡ is_marked c.loop-place.marks p)) (sym here) c.clear_kept.ensures.kept) off on lane within)
    (λ other apart. c.clear_kept.ensures.others other (λ same. apart (same ∙ sym here)))
    (inv.tracked lane watched within are known) in
    let fresh : (lane other : ℕ) (next : List Bool) → i < other → other < length flips
    → cell_at (fold (change_slot at lane) next (take c.note-count.result c.note-count.new.changes)) (flip_in flips other).target ≡ cell_at next (flip_in flips other).target =
    λ lane other next later within.
    ap (λ state. cell_at state (flip_in flips other).target) (c.note-count.ensures.noted lane next)
    ∙ change-apart at lane (fold (change_slot at lane) next (take c.loop-place.count c.loop-place.changes)) made (flip_in flips other).target
    (λ change is same. omega (arith, c.requires.apart i other later within, same, subst (λ o. IfSome o (λ change. change.cell ≡ target)) is c.flip_change-made.ensures.cell))
    ∙ inv.fresh lane other next (omega (arith, here, later)) within in
    record {
      low = omega (arith, inv.low, past);
      high = end;
      count = omega (arith, inv.count, c.note-count.ensures.count, past);
      tracked = tracked;
      noted = λ lane watched next within are known same.
          let cells = lane_bits at lane c.args.cells.now in
          let active = at c.args.trigger.now.active lane in
          let slots = slots_of (step_by c.args.trigger.now.cause (lane_bits at lane c.args.trigger.now.earlier.now) cells) in
          let step = step_in active (flip_slot slots cells []) in
          let so_far : fold (change_slot at lane) next (take c.note-count.result c.note-count.new.changes) ≡ fold step next (flip_flops (take (i + 1) flips)) =
          c.note-count.ensures.noted lane next
          ∙ ap (λ state. changed_by at lane state made) (inv.noted lane watched next within are known same)
          ∙ c.flip_change-made.ensures.change lane (fold step next (flip_flops (take i flips))) within
          (λ alone.
          ap (λ state. cell_at state target) (sym (inv.noted lane watched next within are known same))
          ∙ inv.fresh lane i next (omega (arith, here)) inside
          ∙ same target (below i inside))
          ∙ sym (fold-flips step next flips i no_flip inside) in
          so_far
          ∙ sym (flips-between active slots cells next flips (i + 1) (last - first) (omega (arith, past, inv.low)) (omega (arith, end, inv.low, past))
          (λ j low high on.
          flip-even first flips watched cells marks j are (tracked lane watched within are (known on)) (omega (arith, high, end, inv.low, past))
          (c.next_marked-place-in-loop-place.ensures.none (first + j) (omega (arith, low, inv.low)) (omega (arith, high, inv.low, past))))
          (λ j low high.
          ap (λ state. cell_at state (flip_in flips j).target) (sym so_far)
          ∙ fresh lane j next (omega (arith, low)) (omega (arith, high, end, inv.low, past))
          ∙ same (flip_in flips j).target (below j (omega (arith, high, end, inv.low, past)))));
      fresh = λ lane other next past_other within. fresh lane other next (omega (arith, past, past_other, inv.low)) within;
    }

pub returns-clause-noted : goal.returns-clause-noted
returns-clause-noted g c lane watched next within are known same =
    let at = g.V.Value.at in
    let flips = c.args.flips.now in
    let cells = lane_bits at lane c.args.cells.now in
    let inv = c.loop-place.invariant in
    let whole : c.loop-place.place - c.args.first ≡ length flips = omega (arith, inv.low, inv.high) in
    inv.noted lane watched next within are known same
    ∙ ap (λ (list : List Flip). fold (step_in (at c.args.trigger.now.active lane) (flip_slot (slots_of (step_by c.args.trigger.now.cause (lane_bits at lane c.args.trigger.now.earlier.now) cells)) cells [])) next (flip_flops list))
    (ap (λ n. take n flips) whole ∙ take_all (length flips) flips (omega arith))

pub returns-clause-tracked : goal.returns-clause-tracked
returns-clause-tracked g c = c.loop-place.invariant.tracked
