use Rattle.image_diff.proofs.Told.{exchanged-told}
use Rattle.image_diff.proofs.law.images_are_exchanged.Goals as goal

pub returns : goal.returns
returns c = exchanged-told
