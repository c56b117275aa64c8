use Rattle.std.proofs.Common.{◌≡◌, ◌++◌, map, take}
use Rattle.fabric_wiring.specs.Outputs.{output_of}
use Rattle.fabric_module.specs.Written.{output_assign}
use Rattle.vlog_emit.specs.Each.{EachFabric}
use Rattle.vlog_emit.proofs.sections.append_outputs.Given as goal

abbrev pub invariant-loop-output : goal.invariant-loop-output
invariant-loop-output l = EachFabric l.design (λ fabric. l.items.items ≡ l.initial.items.items ++ map (output_assign fabric) (map output_of (take l.output-index l.outputs)))
