use Rattle.std.proofs.Common.{◌≡◌, ◌++◌, flat_map, take}
use Rattle.fabric_model.specs.Fabric.{numbered}
use Rattle.fabric_module.specs.Written.{start_items}
use Rattle.vlog_emit.specs.Each.{EachFabric}
use Rattle.vlog_emit.proofs.sections.append_starts.Given as goal

abbrev pub invariant-loop-place : goal.invariant-loop-place
invariant-loop-place l = EachFabric l.design (λ fabric. l.items.items ≡ l.initial.items.items ++ flat_map (start_items fabric) (numbered (take l.place l.rams)))
