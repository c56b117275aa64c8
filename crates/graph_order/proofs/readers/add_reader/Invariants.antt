use Rattle.std.proofs.Common.{◌≡◌, ℕ, ◌<◌, true, length, get_or}
use Rattle.graph_order.specs.Wiring.{has}
use Rattle.graph_order.specs.Rows.{row_at}
use Rattle.graph_order.proofs.readers.add_reader.Given as goal

abbrev pub invariant-loop-other : goal.invariant-loop-other
invariant-loop-other l = record {
  rows : length l.rows.items ≡ length l.fn.rows.items;
  kept : (other reader : ℕ) → has (row_at l.fn.rows.items other) reader ≡ true → has (row_at l.rows.items other) reader ≡ true;
  added : (place : ℕ) → place < l.other-index → has (row_at l.rows.items (get_or l.read place 0)) l.node ≡ true;
  within : (bound : ℕ) → l.node < bound → ((other reader : ℕ) → has (row_at l.fn.rows.items other) reader ≡ true → reader < bound) → (other reader : ℕ) → has (row_at l.rows.items other) reader ≡ true → reader < bound;
}
