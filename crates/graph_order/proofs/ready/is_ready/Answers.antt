use Rattle.std.proofs.Common.{◌<◌, length, ap, sym, ◌∙◌, arith}
use Rattle.graph_order.specs.Wiring.{has}
use Rattle.graph_order.proofs.Lists.{row-items}
use Rattle.graph_order.proofs.ready.is_ready.Goals as goal

pub are_written-requires-clause-within : goal.are_written-requires-clause-within
are_written-requires-clause-within c =
    let row = c.index-reads-node.result in
    let within : c.args.node < length c.args.reads.now = omega (arith, c.requires.within, c.requires.rows) in
    λ node found. c.requires.reads_within c.args.node node
    (ap (λ list. has list node) (row-items c.args.reads.now c.args.node row row within c.index-reads-node.is ∙ sym c.deref.ensures.value) ∙ found)
