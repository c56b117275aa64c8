use Rattle.std.proofs.Common.{◌≡◌, ◌-◌, ◌<◌, ◌≤◌, length}
use Rattle.name_arena.specs.Buckets.{IsChained}
use Rattle.name_arena.proofs.chains.Chains.of.Given as goal

-- the first names are in their buckets
abbrev pub invariant-loop-place : goal.invariant-loop-place
invariant-loop-place l =
    (l.place ≤ length l.names) × (length l.chains.before.items ≡ l.place) × (0 < length l.chains.last.items) × IsChained l.names l.chains

abbrev pub decreases-loop-place : goal.decreases-loop-place
decreases-loop-place l = length l.names - l.place
