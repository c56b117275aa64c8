use Rattle.std.proofs.Common.{take}
use Rattle.floor_plan.specs.ByTile.{Raises}
use Rattle.floor_plan.proofs.links.count_links.Given as goal

abbrev pub invariant-loop-place : goal.invariant-loop-place
invariant-loop-place l =
    Raises l.links (take l.place-index l.places) l.initial.counts l.counts
