use Rattle.std.proofs.Common.{flat_map, take}
use Rattle.vlog_semantics.specs.Held.{Holds}
use Rattle.vlog_semantics.specs.Plans.{blank_output}
use Rattle.vlog_semantics.proofs.build.blank_outputs.Given as goal

abbrev pub invariant-loop-port : goal.invariant-loop-port
invariant-loop-port l = Holds l.outputs (flat_map blank_output (take l.port-index l.ports))
