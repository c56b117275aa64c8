use Rattle.graph_order.proofs.readers.add.Goals as goal
use Rattle.shared_lemmas.proofs.Lists.{items-pushed}

pub returns : goal.returns
returns c = items-pushed c.args.rows.now.items c.args.at c.args.node c.index_mut.result.now c.push.new.self c.requires c.index_mut.ensures.value c.in_ok-push.ensures.items
