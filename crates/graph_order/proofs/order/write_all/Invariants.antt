use Rattle.std.proofs.Common.{◌≡◌, false, not, length}
use Rattle.graph_order.proofs.Ordered.{count_below}
use Rattle.graph_order.specs.Rows.{is_marked, wiring_of}
use Rattle.graph_order.specs.Ready.{HoldsReady, HoldsAllBut, IsWritten}
use Rattle.graph_order.proofs.order.write_all.Given as goal

abbrev pub invariant-loop-node : goal.invariant-loop-node
invariant-loop-node l = record {
  marks : length l.written ≡ length l.driven;
  ready : HoldsReady (wiring_of l.driven l.reads) (is_marked l.written) l.ready;
  all : HoldsAllBut (wiring_of l.driven l.reads) (is_marked l.written) (λ node. false) l.ready;
  order : IsWritten (wiring_of l.driven l.reads) (is_marked l.written) l.order.items;
}

abbrev pub decreases-loop-node : goal.decreases-loop-node
decreases-loop-node l = count_below (length l.driven) (λ node. not (is_marked l.written node))
