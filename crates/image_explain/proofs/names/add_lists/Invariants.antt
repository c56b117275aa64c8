use Rattle.image_explain.specs.Keys.{FindsNets}
use Rattle.image_explain.proofs.names.add_lists.Given as goal

abbrev pub invariant-loop-places : goal.invariant-loop-places
invariant-loop-places l = FindsNets l.db l.nets.nets
