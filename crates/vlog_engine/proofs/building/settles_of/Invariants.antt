use Rattle.std.proofs.Common.{◌≡◌, take}
use Rattle.std.specs.Prelude.{map}
use Rattle.vlog_engine.specs.Resolved.{resolved_settle}
use Rattle.vlog_engine.proofs.building.settles_of.Given as goal

abbrev pub invariant-loop-settle : goal.invariant-loop-settle
invariant-loop-settle l = l.found.items ≡ map (resolved_settle l.bits l.words l.roots) (take l.settle-index l.settles)
