use Rattle.std.proofs.Common.{◌≡◌, ◌<◌, ℕ, true, [], get_or, length}
use Rattle.vlog_engine.specs.Marks.{gate_at, has, lists_of, touches}
use Rattle.vlog_engine.proofs.readers.readers_of.Given as goal

abbrev pub invariant-loop-place : goal.invariant-loop-place
invariant-loop-place l = record {
  size : length (lists_of l.readers.items) ≡ l.count;
  read : (place cell : ℕ) → place < l.place → cell < l.count → touches (gate_at l.gates place) cell ≡ true → has (get_or (lists_of l.readers.items) cell []) place ≡ true;
}
