use Rattle.std.proofs.Common.{◌≤◌, drop, length}
use Rattle.long_events.specs.inside.Counting.{Tallies}
use Rattle.long_events.proofs.counting.count_moves.Given as goal

abbrev pub invariant-loop-place : goal.invariant-loop-place
invariant-loop-place l = record {
  within : l.place ≤ length l.steps;
  tallies : Tallies l.tally (drop l.place l.steps);
}

abbrev pub decreases-loop-place : goal.decreases-loop-place
decreases-loop-place l = l.place
