use Rattle.floor_plan.proofs.ByTiles.{pushed}
use Rattle.floor_plan.proofs.by_tile.add.Goals as goal

pub returns : goal.returns
returns c = pushed c.args.lists.now.items c.args.at c.args.mark c.index_mut.result.now c.push.new.self c.requires c.index_mut.ensures.value c.in_ok-push.ensures.items
