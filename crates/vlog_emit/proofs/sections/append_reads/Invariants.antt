use Rattle.std.proofs.Common.{◌≡◌, ◌++◌, flat_map, take}
use Rattle.fabric_module.specs.Written.{read_items}
use Rattle.vlog_emit.specs.Each.{EachFabric}
use Rattle.vlog_emit.proofs.sections.append_reads.Given as goal

abbrev pub invariant-loop-ram : goal.invariant-loop-ram
invariant-loop-ram l = EachFabric l.design (λ fabric. l.items.items ≡ l.initial.items.items ++ flat_map (read_items fabric) (take l.ram-index l.rams))
