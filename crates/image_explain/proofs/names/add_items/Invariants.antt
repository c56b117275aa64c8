use Rattle.image_explain.specs.Keys.{FindsNets}
use Rattle.image_explain.proofs.names.add_items.Given as goal

abbrev pub invariant-loop-item : goal.invariant-loop-item
invariant-loop-item l = FindsNets l.db l.nets.nets
