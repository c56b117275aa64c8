use Rattle.std.proofs.Common.{◌≡◌, fold, take}
use Rattle.vlog_engine.specs.Roots.{root_step}
use Rattle.vlog_engine.proofs.roots.join_all.Given as goal

abbrev pub invariant-loop-gate : goal.invariant-loop-gate
invariant-loop-gate l = l.roots ≡ fold (root_step l.zero l.held) l.initial.roots (take l.gate-index l.gates)
