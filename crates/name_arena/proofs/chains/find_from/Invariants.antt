use Rattle.std.proofs.Common.{ℕ}
use Rattle.name_arena.proofs.Places.{Searches}
use Rattle.name_arena.proofs.chains.find_from.Given as goal

abbrev pub invariant-loop-place : goal.invariant-loop-place
invariant-loop-place l = (count : ℕ) × Searches l.names l.before l.name count l.after l.place

abbrev pub decreases-loop-place : goal.decreases-loop-place
decreases-loop-place l = l.after
