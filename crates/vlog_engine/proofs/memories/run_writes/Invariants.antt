use Rattle.std.proofs.Common.{◌≡◌, fold, take}
use Rattle.vlog_semantics.specs.Steps.{put_written}
use Rattle.vlog_engine.proofs.memories.run_writes.Given as goal

abbrev pub invariant-loop-found : goal.invariant-loop-found
invariant-loop-found l = l.memories ≡ fold put_written l.initial.memories (take l.found-index l.written)
