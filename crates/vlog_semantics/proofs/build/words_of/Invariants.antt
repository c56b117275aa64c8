use Rattle.std.proofs.Common.{flat_map, take}
use Rattle.vlog_semantics.specs.Held.{Holds}
use Rattle.vlog_semantics.specs.Run.{word_start}
use Rattle.vlog_semantics.proofs.build.words_of.Given as goal

abbrev pub invariant-loop-item : goal.invariant-loop-item
invariant-loop-item l = Holds l.words (flat_map word_start (take l.item-index l.items))
