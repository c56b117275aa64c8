use Rattle.std.proofs.Common.{◌≡◌, take}
use Rattle.std.specs.Prelude.{map}
use Rattle.vlog_engine.specs.Resolved.{resolved}
use Rattle.vlog_engine.proofs.building.outputs_of.Given as goal

abbrev pub invariant-loop-output : goal.invariant-loop-output
invariant-loop-output l = l.found.items ≡ map (resolved l.bits l.words l.roots) (take l.output-index l.outputs)
