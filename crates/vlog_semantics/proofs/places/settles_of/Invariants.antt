use Rattle.std.proofs.Common.{◌≡◌, take}
use Rattle.std.specs.List.{filter_map}
use Rattle.vlog_semantics.specs.Found.{places_in}
use Rattle.vlog_semantics.specs.Plans.{settle_of}
use Rattle.vlog_semantics.proofs.places.settles_of.Given as goal

abbrev pub invariant-loop-item : goal.invariant-loop-item
invariant-loop-item l = l.settles.items ≡ filter_map (settle_of (places_in l.places)) (take l.item-index l.items)
