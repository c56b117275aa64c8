use Rattle.std.proofs.Common.{◌∙◌, sym}
use Rattle.long_events.proofs.Turning.{moves-moved, moves-turned, moves-ended}
use Rattle.long_events.proofs.cursor.Cursor.next_move.Goals as goal

pub returns-in-Moved-clause-moves : goal.returns-in-Moved-clause-moves
returns-in-Moved-clause-moves c = sym c.loop-found.invariant.same ∙ moves-moved c.args.steps.now c.loop-found.self c.turn.new.self c.in-Moved.found c.in-Moved.ensures.does

pub loop-found-preserved : goal.loop-found-preserved
loop-found-preserved c = record {
  stands = c.in-Turned.ensures.stands;
  same = moves-turned c.args.steps.now c.loop-found.self c.turn.new.self c.in-Turned.ensures.does ∙ c.loop-found.invariant.same;
}

pub returns-in-Ended-clause-moves : goal.returns-in-Ended-clause-moves
returns-in-Ended-clause-moves c =
    sym c.loop-found.invariant.same
    ∙ moves-ended c.args.steps.now c.loop-found.self c.in-Ended.ensures.does.0
    ∙ sym (moves-ended c.args.steps.now c.turn.new.self c.in-Ended.ensures.does.1)

pub returns-in-Ended-clause-ended : goal.returns-in-Ended-clause-ended
returns-in-Ended-clause-ended c =
    sym c.loop-found.invariant.same ∙ moves-ended c.args.steps.now c.loop-found.self c.in-Ended.ensures.does.0
