use Rattle.std.proofs.Common.{◌≡◌, ℕ, ◌<◌, true, length}
use Rattle.graph_order.specs.Wiring.{has}
use Rattle.graph_order.specs.Rows.{row_at}
use Rattle.graph_order.proofs.readers.readers_of.Given as goal

abbrev pub invariant-loop-node : goal.invariant-loop-node
invariant-loop-node l = record {
  rows : length l.readers.items ≡ length l.reads;
  within : (other reader : ℕ) → has (row_at l.readers.items other) reader ≡ true → reader < length l.reads;
  all : (node other : ℕ) → node < l.node → has (row_at l.reads node) other ≡ true → has (row_at l.readers.items other) node ≡ true;
}
