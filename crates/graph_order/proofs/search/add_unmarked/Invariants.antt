use Rattle.std.proofs.Common.{◌≡◌, ℕ, ◌<◌, true, get_or}
use Rattle.graph_order.specs.Rows.{is_marked}
use Rattle.graph_order.specs.Search.{Adds}
use Rattle.graph_order.proofs.search.add_unmarked.Given as goal

abbrev pub invariant-loop-node : goal.invariant-loop-node
invariant-loop-node l = record {
  adds : Adds l.row l.from l.fn.marks l.marks l.fn.trail.items l.trail.items;
  all : (place : ℕ) → place < l.node-index → is_marked l.marks (get_or l.row place 0) ≡ true;
}
