use Rattle.std.proofs.Common.{◌≡◌, ◌++◌, map, take}
use Rattle.fabric_module.specs.Written.{class_wire}
use Rattle.vlog_emit.specs.Each.{EachFabric}
use Rattle.vlog_emit.proofs.sections.append_wires.Given as goal

abbrev pub invariant-loop-class : goal.invariant-loop-class
invariant-loop-class l = EachFabric l.design (λ fabric. l.items.items ≡ l.initial.items.items ++ map (class_wire fabric) (take l.class-index l.classes))
