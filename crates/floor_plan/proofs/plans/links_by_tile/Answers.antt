use Rattle.floor_plan.proofs.ByTiles.{counts-kept}
use Rattle.floor_plan.proofs.plans.links_by_tile.Goals as goal

pub returns : goal.returns
returns c =
    counts-kept c.args.buffers.now c.args.routings.now c.args.links.now c.buffers.result.now c.routings.result.now c.in_ok-counts.counts.items c.deref_mut.result.now c.count_links.new.counts c.deref_mut-2.result.now
    c.count_links-2.new.counts c.in_ok-counts.counts.len c.in_ok-counts.ensures c.in_ok-counts.counts.ok.0 c.buffers.ensures c.routings.ensures c.deref_mut.ensures.value c.deref_mut-2.ensures.value
    c.in_ok-count_links.ensures c.in_ok-count_links-2.ensures
