use Rattle.std.proofs.Common.{◌≡◌, take}
use Rattle.std.specs.List.{filter_map}
use Rattle.vlog_semantics.specs.Found.{places_in}
use Rattle.vlog_semantics.specs.Plans.{wave_edge}
use Rattle.vlog_semantics.proofs.places.clocks_of.Given as goal

abbrev pub invariant-loop-item : goal.invariant-loop-item
invariant-loop-item l = l.clocks.items ≡ filter_map (wave_edge (places_in l.places)) (take l.item-index l.items)
