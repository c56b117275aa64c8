use Rattle.std.proofs.Common.{◌≡◌, map, replicate}
use Rattle.vlog_engine.proofs.start.copies.Given as goal

abbrev pub invariant-loop : goal.invariant-loop
invariant-loop g l = map (λ each. each.items) l.lists.items ≡ replicate l.counter l.list
