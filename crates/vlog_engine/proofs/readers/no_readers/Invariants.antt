use Rattle.std.proofs.Common.{◌≡◌, [], replicate}
use Rattle.vlog_engine.specs.Marks.{lists_of}
use Rattle.vlog_engine.proofs.readers.no_readers.Given as goal

abbrev pub invariant-loop : goal.invariant-loop
invariant-loop l = lists_of l.readers.items ≡ replicate l.counter []
