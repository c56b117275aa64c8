use Rattle.image_diff.proofs.Alike.{nothing-told}
use Rattle.image_diff.proofs.law.nothing_of_alike.Goals as goal

pub returns : goal.returns
returns c = nothing-told
