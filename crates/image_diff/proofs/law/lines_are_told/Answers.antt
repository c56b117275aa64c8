use Rattle.image_diff.proofs.Changes.{differences-told}
use Rattle.image_diff.proofs.law.lines_are_told.Goals as goal

pub returns : goal.returns
returns c = differences-told
