use Rattle.std.proofs.Common.{flat_map, take}
use Rattle.vlog_semantics.specs.Held.{Holds}
use Rattle.vlog_semantics.specs.Run.{memory_start}
use Rattle.vlog_semantics.proofs.build.blank_memories.Given as goal

abbrev pub invariant-loop-item : goal.invariant-loop-item
invariant-loop-item l = Holds l.memories (flat_map memory_start (take l.item-index l.items))
