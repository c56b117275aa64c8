use Rattle.std.proofs.Common.{◌∙◌}
use Rattle.graph_order.proofs.Each.{any-is}
use Rattle.graph_order.proofs.cycle.has_node.Goals as goal

pub returns : goal.returns
returns c = c.contains.ensures.value ∙ any-is c.args.row.now c.args.node
