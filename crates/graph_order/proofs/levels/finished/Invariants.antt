use Rattle.std.proofs.Common.{◌≡◌, ◌<◌, length}
use Rattle.std.specs.List.{All}
use Rattle.graph_order.proofs.levels.finished.Given as goal

abbrev pub invariant-loop-node : goal.invariant-loop-node
invariant-loop-node l = record {
  marks : length l.marks.items ≡ length l.reads;
  order : All (λ node. node < length l.reads) l.order.items;
}
