use Rattle.image_explain.specs.Keys.{FindsNets}
use Rattle.image_explain.proofs.names.add_places.Given as goal

abbrev pub invariant-loop-place : goal.invariant-loop-place
invariant-loop-place l = FindsNets l.db l.nets.nets
