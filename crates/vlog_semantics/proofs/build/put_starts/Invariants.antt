use Rattle.std.proofs.Common.{ℕ, List, fold, take}
use Rattle.vlog_semantics.specs.Held.{Holds}
use Rattle.vlog_semantics.specs.Run.{start_step}
use Rattle.vlog_semantics.proofs.build.put_starts.Given as goal

abbrev pub invariant-loop-item : goal.invariant-loop-item
invariant-loop-item l = (entries : List (List ℕ × List ℕ)) → Holds l.initial.memories entries → Holds l.memories (fold start_step entries (take l.item-index l.items))
