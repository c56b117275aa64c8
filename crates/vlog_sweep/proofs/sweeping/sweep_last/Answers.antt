use Rattle.std.proofs.Common.{◌≡◌, ◌<◌, ℕ, List, ap, arith, get_or, length, refl, subst, sym, ◌∙◌}
use Rattle.std.specs.List.{sum_by}
use Rattle.std.proofs.lemmas.List.{with_items_is}
use Rattle.vlog_module.specs.Parts.{Parts}
use Rattle.vlog_lanes.specs.declared.lanes.Lanes.{Lanes}
use Rattle.vlog_sweep.specs.Strands.{Called, left_of}
use Rattle.vlog_sweep.specs.declared.strand.Strand.{Strand}
use Rattle.vlog_sweep.proofs.Going.{Going, Turned, as-many, begun, inputs-going, less-left, lines-ended, went-on}
use Rattle.vlog_sweep.proofs.sweeping.sweep_last.Goals as goal

pub loop-active-init : goal.loop-active-init
loop-active-init c =
    begun c.args.module.now c.args.lists.now c.in_ok-lanes.lanes c.in_ok-strands.strands.items c.requires.few c.in_ok-lanes.ensures
    c.in_ok-strands.ensures.lists c.in_ok-strands.ensures.taken

pub call_next-requires : goal.call_next-requires
call_next-requires c = record {
  few = omega (arith, c.requires.few, as-many c.loop-active.invariant, ap (λ (xs : List Strand). length xs) c.deref.ensures.value);
  inputs = inputs-going c.deref.result.now c.deref.ensures.value c.loop-active.invariant c.requires.inputs;
}

pub take_events-requires : goal.take_events-requires
take_events-requires c =
    let old : List Strand = c.deref_mut.result.now in
    let active = c.in-Some.active in
    let called = subst (λ (xs : List Strand). Called c.loop-active.lanes c.call_next.new.lanes xs active) (c.deref.ensures.value ∙ sym c.deref_mut.ensures.value)
    (c.in-Some.ensures.some active refl) in
    record {
      few = omega (arith, c.requires.few, as-many c.loop-active.invariant, ap (λ (xs : List Strand). length xs) c.deref_mut.ensures.value);
      left = λ k d inside on. called.left k d inside on;
    }

pub loop-active-smaller : goal.loop-active-smaller
loop-active-smaller c =
    let old : List Strand = c.deref_mut.result.now in
    let active = c.in-Some.active in
    let called = subst (λ (xs : List Strand). Called c.loop-active.lanes c.call_next.new.lanes xs active) (c.deref.ensures.value ∙ sym c.deref_mut.ensures.value)
    (c.in-Some.ensures.some active refl) in
    let next : List Strand = c.take_events.new.strands in
    let turns : Turned old next active 0 = record { size = c.take_events.auto.strands; each = c.take_events.ensures } in
    let next_is = with_items_is c.loop-active.strands next (omega (arith, turns.size, ap (λ (xs : List Strand). length xs) c.deref_mut.ensures.value, c.loop-active.strands.ok.0)) in
    let strands : List Strand = c.loop-active.strands.items in
    subst (λ (xs : List Strand). sum_by left_of xs < sum_by left_of strands) (sym next_is)
    (subst (λ (xs : List Strand). sum_by left_of next < sum_by left_of xs) c.deref_mut.ensures.value (less-left 0 next called turns))

pub loop-active-preserved : goal.loop-active-preserved
loop-active-preserved c =
    let old : List Strand = c.deref_mut.result.now in
    let active = c.in-Some.active in
    let called = subst (λ (xs : List Strand). Called c.loop-active.lanes c.call_next.new.lanes xs active) (c.deref.ensures.value ∙ sym c.deref_mut.ensures.value)
    (c.in-Some.ensures.some active refl) in
    let next : List Strand = c.take_events.new.strands in
    let turns : Turned old next active 0 = record { size = c.take_events.auto.strands; each = c.take_events.ensures } in
    let next_is = with_items_is c.loop-active.strands next (omega (arith, turns.size, ap (λ (xs : List Strand). length xs) c.deref_mut.ensures.value, c.loop-active.strands.ok.0)) in
    let m : Parts = c.args.module.now in
    let all = c.args.lists.now in
    let going : Going m all c.loop-active.lanes old = subst (λ (xs : List Strand). Going m all c.loop-active.lanes xs) (sym c.deref_mut.ensures.value) c.loop-active.invariant in
    subst (λ (xs : List Strand). Going m all c.call_next.new.lanes xs) (sym next_is) (went-on 0 next going called turns)

pub returns : goal.returns
returns c =
    let m : Parts = c.args.module.now in
    let all = c.args.lists.now in
    let strands : List Strand = c.loop-active.strands.items in
    let going : Going m all c.call_next.new.lanes strands =
    subst (λ (lanes : Lanes). Going m all lanes strands) (sym (c.in_default.ensures.kept refl)) c.loop-active.invariant in
    let none = subst (λ (xs : List Strand). (k : ℕ) (d : Strand) → k < length xs → left_of (get_or xs k d) ≡ 0) c.deref.ensures.value (c.in_default.ensures.none refl) in
    c.last_lines.ensures m (lines-ended c.outputs.result.now going (λ lane entry. c.outputs.ensures lane m entry) none)
