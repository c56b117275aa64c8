use Rattle.std.proofs.Common.{◌≡◌, ◌+◌, ◌<◌, ℕ, List, [], false, ap, arith, flat_map, get_or, length, refl, subst, sym, ◌∙◌}
use Rattle.std.specs.List.{sum_by}
use Rattle.std.specs.Vec.{with_items}
use Rattle.std.proofs.lemmas.List.{length-map, with_items_is}
use Rattle.vlog_module.specs.Parts.{Parts}
use Rattle.vlog_semantics.specs.Run.{start}
use Rattle.vlog_semantics.specs.Values.{bit_of}
use Rattle.vlog_run.specs.Text.{entry_line}
use Rattle.vlog_sweep.specs.Strands.{Stands, left_of}
use Rattle.vlog_sweep.specs.Sweep.{list_text}
use Rattle.vlog_sweep.specs.declared.strand.Strand.{Strand}
use Rattle.vlog_sweep.proofs.ByTurns.{line-size}
use Rattle.vlog_sweep.proofs.Going.{Turned, Writing, as-many, as-step, begun, inputs-going, less-left, line-known, room-known, went-on, width-known}
use Rattle.vlog_sweep.proofs.Runs.{outputs-same}
use Rattle.vlog_sweep.proofs.Shown.{line-shown, some-item}
use Rattle.vlog_sweep.proofs.Texts.{ended}
use Rattle.vlog_sweep.proofs.sweeping.sweep.Goals as goal

pub loop-active-init : goal.loop-active-init
loop-active-init c =
    let m : Parts = c.args.module.now in
    let strands : List Strand = c.in_ok-strands.strands.items in
    let text = c.in_ok-strands.text.items in
    let line = c.in_ok-line.line.items in
    let outputs = c.outputs.result.now in
    let read = c.outputs.ensures 0 m (start m) (c.in_ok-lanes.ensures 0 (omega arith)) in
    let line_is : line ≡ entry_line false (start m) = c.in_ok-line.ensures ∙ line-shown outputs 0 (start m) read in
    record {
      going = begun m c.args.lists.now c.in_ok-lanes.lanes strands c.requires.few c.in_ok-lanes.ensures c.in_ok-strands.ensures.lists c.in_ok-strands.ensures.taken;
      stands = subst (λ l. Stands m l strands text) c.deref.ensures.value (c.in_ok-strands.ensures.stands m (c.deref.ensures.value ∙ line_is));
      width = ap length c.in_ok-line.ensures ∙ line-size outputs 0
          ∙ ap (λ n. n + 1) (sym (length-map outputs (λ word. bit_of word 0)) ∙ ap length read ∙ outputs-same m []);
    }

pub call_next-requires : goal.call_next-requires
call_next-requires c =
    let going = c.loop-active.invariant.going in
    record {
      few = omega (arith, c.requires.few, as-many going, ap (λ (xs : List Strand). length xs) c.deref-in-loop-active.ensures.value);
      inputs = inputs-going c.deref-in-loop-active.result.now c.deref-in-loop-active.ensures.value going c.requires.inputs;
    }

pub returns : goal.returns
returns c =
    let m : Parts = c.args.module.now in
    let strands : List Strand = c.loop-active.strands.items in
    let writing = c.loop-active.invariant in
    let value = c.deref-in-loop-active.ensures.value in
    ended m c.in_ok-line.line.items strands c.loop-active.text.items writing.stands
    (λ k d inside. ap (λ (xs : List Strand). left_of (get_or xs k d)) (sym value) ∙ c.in_default.ensures.none refl k d (omega (arith, inside, ap (λ (xs : List Strand). length xs) value)))
    ∙ ap (flat_map (list_text m)) writing.going.lists

pub take_turns-requires : goal.take_turns-requires
take_turns-requires c =
    let m : Parts = c.args.module.now in
    let old : List Strand = c.deref_mut-in-Some.result.now in
    let active = c.in-Some.active in
    let step = as-step c.deref-in-loop-active.result.now c.loop-active.strands.items old c.loop-active.text.items c.deref_mut.result.now c.outputs-in-Some.result.now
    c.deref-in-loop-active.ensures.value c.deref_mut-in-Some.ensures.value c.deref_mut.ensures.value c.loop-active.invariant (c.in-Some.ensures.some active refl)
    (λ lane entry. c.outputs-in-Some.ensures lane m entry) in
    record {
      few = omega (arith, c.requires.few, as-many step.writing.going);
      left = λ k d inside on. step.called.left k d inside on;
      room = λ k d inside on. room-known k d step inside on;
    }

pub loop-active-smaller : goal.loop-active-smaller
loop-active-smaller c =
    let m : Parts = c.args.module.now in
    let old : List Strand = c.deref_mut-in-Some.result.now in
    let active = c.in-Some.active in
    let step = as-step c.deref-in-loop-active.result.now c.loop-active.strands.items old c.loop-active.text.items c.deref_mut.result.now c.outputs-in-Some.result.now
    c.deref-in-loop-active.ensures.value c.deref_mut-in-Some.ensures.value c.deref_mut.ensures.value c.loop-active.invariant (c.in-Some.ensures.some active refl)
    (λ lane entry. c.outputs-in-Some.ensures lane m entry) in
    let strands : List Strand = c.loop-active.strands.items in
    let next : List Strand = c.take_turns.new.strands in
    let width : ℕ = length c.outputs-in-Some.result.now + 1 in
    let turns : Turned old next active width = record { size = c.take_turns.auto.strands; each = c.take_turns.ensures.strands } in
    let next_is = with_items_is c.loop-active.strands next (omega (arith, turns.size, ap (λ (xs : List Strand). length xs) c.deref_mut-in-Some.ensures.value, c.loop-active.strands.ok.0)) in
    subst (λ (xs : List Strand). sum_by left_of xs < sum_by left_of strands) (sym next_is)
    (subst (λ (xs : List Strand). sum_by left_of next < sum_by left_of xs) c.deref_mut-in-Some.ensures.value (less-left width next step.called turns))

pub loop-active-preserved : goal.loop-active-preserved
loop-active-preserved c =
    let m : Parts = c.args.module.now in
    let old : List Strand = c.deref_mut-in-Some.result.now in
    let active = c.in-Some.active in
    let step = as-step c.deref-in-loop-active.result.now c.loop-active.strands.items old c.loop-active.text.items c.deref_mut.result.now c.outputs-in-Some.result.now
    c.deref-in-loop-active.ensures.value c.deref_mut-in-Some.ensures.value c.deref_mut.ensures.value c.loop-active.invariant (c.in-Some.ensures.some active refl)
    (λ lane entry. c.outputs-in-Some.ensures lane m entry) in
    let line = c.in_ok-line.line.items in
    let all = c.args.lists.now in
    let next : List Strand = c.take_turns.new.strands in
    let new = c.take_turns.new.text in
    let width : ℕ = length c.outputs-in-Some.result.now + 1 in
    let turns : Turned old next active width = record { size = c.take_turns.auto.strands; each = c.take_turns.ensures.strands } in
    let next_is = with_items_is c.loop-active.strands next (omega (arith, turns.size, ap (λ (xs : List Strand). length xs) c.deref_mut-in-Some.ensures.value, c.loop-active.strands.ok.0)) in
    let text_is = with_items_is c.loop-active.text new (omega (arith, c.take_turns.auto.text, ap (λ (bytes : List ℕ). length bytes) c.deref_mut.ensures.value, c.loop-active.text.ok.0)) in
    let some = step.called.some in
    let stands : Stands m line next new =
    c.take_turns.ensures.text m line (width-known some.0 (some-item old some.0 some.1) step some.1) step.writing.stands (λ k d inside on. line-known k d step inside on) in
    subst (λ (xs : List Strand). Writing m line all c.call_next.new.lanes xs (with_items c.loop-active.text new).items) (sym next_is)
    (subst (λ (bytes : List ℕ). Writing m line all c.call_next.new.lanes next bytes) (sym text_is)
    (record { going = went-on width next step.writing.going step.called turns; stands = stands; width = step.writing.width }))
