use Rattle.std.proofs.Common.{◌∙◌, List, ap, length}
use Rattle.long_events.specs.declared.step.Step.{Step}
use Rattle.long_events.specs.Moves.{events_from, moves_of}
use Rattle.long_events.specs.inside.Nesting.{nests}
use Rattle.long_events.proofs.Given.{length-list, list-events, list-moves, list-nests}
use Rattle.long_events.proofs.stream.EventStream.of_list.Goals as goal

pub of_steps-requires-clause-nested : goal.of_steps-requires-clause-nested
of_steps-requires-clause-nested c = ap (nests 0) c.in_ok-steps.ensures ∙ list-nests c.args.events.now

pub of_steps-requires-clause-counted : goal.of_steps-requires-clause-counted
of_steps-requires-clause-counted c =
    let events = c.args.events.now in
    ap (λ (steps : List Step). length (moves_of steps)) c.in_ok-steps.ensures ∙ ap length (list-moves events) ∙ length-list events

pub returns : goal.returns
returns c =
    let events = c.args.events.now in
    let bits = c.new.result.items in
    c.of_steps.ensures
    ∙ ap (λ (steps : List Step). events_from bits (moves_of steps)) c.in_ok-steps.ensures
    ∙ ap (events_from bits) (list-moves events)
    ∙ list-events bits events
