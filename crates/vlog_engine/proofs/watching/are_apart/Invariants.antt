use Rattle.std.proofs.Common.{ℕ, ◌+◌, ◌<◌}
use Rattle.vlog_engine.specs.Flips.{flip_in}
use Rattle.vlog_engine.proofs.watching.are_apart.Given as goal

abbrev pub invariant-loop-place : goal.invariant-loop-place
invariant-loop-place l = (k : ℕ) → k + 1 < l.place → (flip_in l.flips k).target < (flip_in l.flips (k + 1)).target
