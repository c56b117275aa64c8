use Rattle.std.proofs.Common.{arith}
use Rattle.vlog_semantics.specs.Found.{places_in}
use Rattle.vlog_semantics.specs.Plans.{wave_edge}
use Rattle.vlog_semantics.proofs.Filling.{filter_map-more}
use Rattle.vlog_semantics.proofs.places.clocks_of.Goals as goal

pub loop-item-preserved : goal.loop-item-preserved
loop-item-preserved c =
    filter_map-more (wave_edge (places_in c.args.places.now)) c.args.items.now c.loop-item.clocks.items c.push_found.new.list.items c.loop-item.item-index c.item-item.result c.wave_edge.result
    (omega arith) c.item-item.is c.loop-item.invariant c.wave_edge.ensures c.in_ok-push_found.ensures
