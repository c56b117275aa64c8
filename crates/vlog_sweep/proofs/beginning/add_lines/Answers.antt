use Rattle.std.proofs.Common.{◌++◌, List, ap, false, flat_map, get_or, sym, take, ◌∙◌}
use Rattle.std.proofs.lemmas.List.{flat_map_more, take_more}
use Rattle.vlog_semantics.specs.declared.event.Event.{Event}
use Rattle.vlog_sweep.proofs.beginning.add_lines.Goals as goal

pub loop-event-preserved : goal.loop-event-preserved
loop-event-preserved c =
    let text = c.args.text.now.items in
    let events : List Event = c.args.events.now in
    let line = c.args.line.now in
    let i = c.loop-event._event-index in
    let none : Event = record { pin = 0; bit = false } in
    c.in_ok-extend_from_slice.ensures.items
    ∙ ap (λ bytes. bytes ++ line) c.loop-event.invariant
    ∙ flat_map_more (λ (event : Event). line) text (take i events) (get_or events i none)
    ∙ ap (λ xs. text ++ flat_map (λ (event : Event). line) xs) (sym (take_more events i none c.loop-event-test.true))
