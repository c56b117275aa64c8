use Rattle.std.proofs.Common.{◌≡◌}
use Rattle.vlog_engine.specs.Roots.{first_roots}
use Rattle.vlog_engine.proofs.roots.first_roots.Given as goal

abbrev pub invariant-loop-cell : goal.invariant-loop-cell
invariant-loop-cell l = l.roots.items ≡ first_roots l.cell
