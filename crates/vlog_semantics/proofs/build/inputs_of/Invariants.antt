use Rattle.std.proofs.Common.{flat_map, take}
use Rattle.vlog_semantics.specs.Held.{Holds}
use Rattle.vlog_semantics.specs.Run.{input_start}
use Rattle.vlog_semantics.proofs.build.inputs_of.Given as goal

abbrev pub invariant-loop-port : goal.invariant-loop-port
invariant-loop-port l = Holds l.inputs (flat_map input_start (take l.port-index l.ports))
