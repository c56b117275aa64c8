use Rattle.std.proofs.Common.{◌≡◌, flat_map, take}
use Rattle.vlog_semantics.specs.Found.{places_in}
use Rattle.vlog_semantics.specs.Plans.{flip_steps}
use Rattle.vlog_semantics.proofs.places.flips_of.Given as goal

abbrev pub invariant-loop-item : goal.invariant-loop-item
invariant-loop-item l = l.flips.items ≡ flat_map (flip_steps (places_in l.places)) (take l.item-index l.items)
