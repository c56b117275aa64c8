use Rattle.std.proofs.Common.{◌<◌, ◌++◌, false, get_or, ap, arith, length, map, sym, take_all, ◌∙◌}
use Rattle.ice_gen.specs.declared.event.PinEvent.{PinEvent}
use Rattle.fabric_module.specs.Matching.{module_event}
use Rattle.selfrun_tool.specs.Counted.{event_for, events_for}
use Rattle.selfrun_tool.proofs.PinEvents.{events-more}
use Rattle.selfrun_tool.proofs.events.events_for.Goals as goal

pub loop-event-preserved : goal.loop-event-preserved
loop-event-preserved c =
    let i = c.loop-event.event-index in
    let none : PinEvent = record { second = false; bit = false } in
    let within : i < length c.args.made.now = omega arith in
    c.in_ok-push_event.ensures
    ∙ ap (λ items. items ++ map module_event (event_for c.args.inputs.now (get_or c.args.made.now i none))) c.loop-event.invariant
    ∙ sym (events-more c.args.inputs.now c.args.made.now i none within)

pub returns : goal.returns
returns c = c.loop-event.invariant ∙ ap (λ made. map module_event (events_for c.args.inputs.now made)) (take_all c.loop-event.event-index c.args.made.now (omega arith))
