use Rattle.std.proofs.Common.{inl, inr, get_or}
use Rattle.std.proofs.lemmas.Bool.{cases_Bool}
use Rattle.graph_order.specs.Wiring.{has}
use Rattle.graph_order.proofs.Lists.{has-at, has-place}
use Rattle.graph_order.proofs.ready.insert_ready.Goals as goal

pub loop-node-init : goal.loop-node-init
loop-node-init c = record {
  ready = c.requires.ready;
  all = λ node ready. elim (cases_Bool (has c.args.nodes.now node)) [
    | inl found ↦ inr (has-place c.args.nodes.now node found)
    | inr missing ↦ inl (c.requires.others node ready missing)
  ];
}

pub is_ready-requires-clause-within : goal.is_ready-requires-clause-within
is_ready-requires-clause-within c = c.requires.within (get_or c.args.nodes.now c.loop-node.node-index 0) (has-at c.args.nodes.now c.loop-node.node-index c.loop-node-test.true)
