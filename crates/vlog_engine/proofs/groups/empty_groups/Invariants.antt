use Rattle.std.proofs.Common.{◌≡◌, length}
use Rattle.std.specs.List.{All}
use Rattle.vlog_engine.specs.Groups.{IsEmpty}
use Rattle.vlog_engine.proofs.groups.empty_groups.Given as goal

abbrev pub invariant-loop : goal.invariant-loop
invariant-loop l = record {
  count : length l.groups.items ≡ l.counter;
  empty : All IsEmpty l.groups.items;
}
