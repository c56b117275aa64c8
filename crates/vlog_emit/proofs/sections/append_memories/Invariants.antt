use Rattle.std.proofs.Common.{◌≡◌, ◌++◌, map, take}
use Rattle.fabric_module.specs.Written.{ram_memory}
use Rattle.vlog_emit.proofs.sections.append_memories.Given as goal

abbrev pub invariant-loop-ram : goal.invariant-loop-ram
invariant-loop-ram l = l.items.items ≡ l.initial.items.items ++ map ram_memory (take l.ram-index l.rams)
