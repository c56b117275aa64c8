use Rattle.std.proofs.Common.{◌≡◌, ◌++◌, flat_map, take}
use Rattle.long_runs.specs.inside.Names.{output_name, spaced}
use Rattle.long_runs.proofs.head.push_outputs.Given as goal

abbrev pub invariant-loop-port : goal.invariant-loop-port
invariant-loop-port l = l.text.items ≡ l.initial.text.items ++ spaced (flat_map output_name (take l.port-index l.ports))
