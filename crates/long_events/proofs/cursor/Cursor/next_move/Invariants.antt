use Rattle.std.proofs.Common.{◌≡◌, length}
use Rattle.long_events.specs.inside.Cursors.{Stands, moves_left, ticks_left}
use Rattle.long_events.proofs.cursor.Cursor.next_move.Given as goal

abbrev pub invariant-loop-found : goal.invariant-loop-found
invariant-loop-found l = record {
  stands : Stands l.steps l.self;
  same : moves_left l.steps l.self ≡ moves_left l.steps l.initial.self;
}

-- what is left to unfold
abbrev pub decreases-loop-found : goal.decreases-loop-found
decreases-loop-found l = length (ticks_left l.steps l.self)
