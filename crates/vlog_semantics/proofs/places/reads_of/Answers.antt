use Rattle.std.proofs.Common.{arith}
use Rattle.vlog_semantics.specs.Found.{places_in}
use Rattle.vlog_semantics.specs.Plans.{read_of}
use Rattle.vlog_semantics.proofs.Filling.{filter_map-more}
use Rattle.vlog_semantics.proofs.places.reads_of.Goals as goal

pub loop-item-preserved : goal.loop-item-preserved
loop-item-preserved c =
    filter_map-more (read_of (places_in c.args.places.now)) c.args.items.now c.loop-item.reads.items c.push_found.new.list.items c.loop-item.item-index c.item-item.result c.read_of.result
    (omega arith) c.item-item.is c.loop-item.invariant c.read_of.ensures c.in_ok-push_found.ensures
