use Rattle.std.proofs.Common.{◌≡◌, ◌∙◌, Bool, List, [], ◌∷◌, ap, ap₂, arith, length, slice_set, subst, sym}
use Rattle.std.proofs.lemmas.List.{with_items_is}
use Rattle.vlog_semantics.specs.declared.event.Event.{Event}
use Rattle.long_events.specs.declared.step.Step.{Step}
use Rattle.long_events.specs.Moves.{bits_after, event_by, events_from}
use Rattle.long_events.specs.Streams.{events_left}
use Rattle.long_events.specs.inside.Cursors.{moves_left}
use Rattle.long_events.proofs.Given.{events-next, events-none}
use Rattle.long_events.proofs.stream.EventStream.next_event.Goals as goal

pub returns-in_err-found-clause-events : goal.returns-in_err-found-clause-events
unfolding events_left
returns-in_err-found-clause-events c =
    let old = c.args.self.now in
    let new = c.next_move.new.self in
    let moves = subst (λ (steps : List Step). moves_left steps old.cursor ≡ moves_left steps new) c.deref.ensures.value c.in_err-found.ensures.moves in
    rw c.from_residual.ensures (ap (events_from old.bits.items) moves)

pub returns-in_err-found-clause-ended : goal.returns-in_err-found-clause-ended
unfolding events_left
returns-in_err-found-clause-ended c =
    let old = c.args.self.now in
    let none = subst (λ (steps : List Step). moves_left steps old.cursor ≡ []) c.deref.ensures.value c.in_err-found.ensures.ended in
    rw c.from_residual.ensures (ap (events_from old.bits.items) none ∙ events-none old.bits.items)

pub returns-clause-events : goal.returns-clause-events
unfolding events_left
returns-clause-events c =
    let old = c.args.self.now in
    let new = c.next_move.new.self in
    let found = c.in_ok-found.found in
    let bits : List Bool = old.bits.items in
    let event : Event = c.event_by-event.result in
    let moves = subst (λ (steps : List Step). moves_left steps old.cursor ≡ found ∷ moves_left steps new) c.deref.ensures.value c.in_ok-found.ensures.moves in
    let is : event ≡ event_by bits found = c.event_by-event.ensures ∙ ap (λ (some : List Bool). event_by some found) c.deref-2.ensures.value in
    let set : c.set_bit.new.bits ≡ bits_after bits event = c.set_bit.ensures ∙ ap (λ (some : List Bool). slice_set some event.pin event.bit) c.deref_mut.ensures.value in
    let written = with_items_is old.bits c.set_bit.new.bits (omega (arith, c.set_bit.auto.bits, old.bits.ok.0, ap (λ (list : List Bool). length list) c.deref_mut.ensures.value)) in
    let after = ap (bits_after bits) (sym is) ∙ sym set ∙ sym written in
    ap (events_from bits) moves
    ∙ events-next bits found (moves_left old.steps.items new)
    ∙ ap₂ (λ (first : Event) (some : List Bool). first ∷ events_from some (moves_left old.steps.items new)) (sym is) after
