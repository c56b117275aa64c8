use Rattle.image_explain.proofs.Lists.{pushed}
use Rattle.image_explain.proofs.links.add.Goals as goal

pub returns : goal.returns
returns c = pushed c.args.lists.now.items c.args.at c.args.place c.index_mut.result.now c.push.new.self c.requires c.index_mut.ensures.value c.in_ok-push.ensures.items
