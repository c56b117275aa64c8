use Rattle.image_explain.proofs.Firsts.{nets-none}
use Rattle.image_explain.proofs.names.no_nets.Goals as goal

pub returns : goal.returns
returns c kept = nets-none kept c.new.result c.new.ensures.empty
