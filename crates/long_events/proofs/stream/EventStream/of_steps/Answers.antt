use Rattle.std.proofs.Common.{◌∙◌, ap, length, subst, sym}
use Rattle.long_events.specs.Moves.{events_from}
use Rattle.long_events.specs.Streams.{events_left}
use Rattle.long_events.specs.inside.Cursors.{Stands, moves_left}
use Rattle.long_events.proofs.Given.{begun-stands, moves-begun}
use Rattle.long_events.proofs.stream.EventStream.of_steps.Goals as goal

pub returns : goal.returns
unfolding events_left
returns c =
    ap (λ cursor. events_from c.args.bits.items (moves_left c.args.steps.items cursor)) c.new-cursor.ensures
    ∙ ap (events_from c.args.bits.items) (moves-begun c.args.steps.items)

pub invariant_of-result-clause-stands : goal.invariant_of-result-clause-stands
invariant_of-result-clause-stands c =
    subst (λ cursor. Stands c.args.steps.items cursor) (sym c.new-cursor.ensures) (begun-stands c.args.steps.items c.requires.nested)

pub invariant_of-result-clause-counted : goal.invariant_of-result-clause-counted
invariant_of-result-clause-counted c =
    ap (λ cursor. length (moves_left c.args.steps.items cursor)) c.new-cursor.ensures ∙ ap length (moves-begun c.args.steps.items) ∙ c.requires.counted
