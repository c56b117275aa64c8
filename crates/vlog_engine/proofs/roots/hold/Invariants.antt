use Rattle.std.proofs.Common.{◌≡◌, take}
use Rattle.vlog_engine.specs.Roots.{held_by}
use Rattle.vlog_engine.proofs.roots.hold.Given as goal

abbrev pub invariant-loop-settle : goal.invariant-loop-settle
invariant-loop-settle l = l.held ≡ held_by l.initial.held (take l.settle-index l.settles)
