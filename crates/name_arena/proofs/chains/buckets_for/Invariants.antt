use Rattle.std.proofs.Common.{◌-◌, ◌^◌, ◌<◌}
use Rattle.name_arena.proofs.chains.buckets_for.Given as goal

abbrev pub invariant-loop-count : goal.invariant-loop-count
invariant-loop-count l = (0 < l.count) × (l.count < 2 ^ 32)

abbrev pub decreases-loop-count : goal.decreases-loop-count
decreases-loop-count l = 2 ^ 32 - l.count
