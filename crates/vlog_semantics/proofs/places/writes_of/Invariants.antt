use Rattle.std.proofs.Common.{◌≡◌, take}
use Rattle.std.specs.List.{filter_map}
use Rattle.vlog_semantics.specs.Found.{places_in}
use Rattle.vlog_semantics.specs.Plans.{write_of}
use Rattle.vlog_semantics.proofs.places.writes_of.Given as goal

abbrev pub invariant-loop-item : goal.invariant-loop-item
invariant-loop-item l = l.writes.items ≡ filter_map (write_of (places_in l.places)) (take l.item-index l.items)
