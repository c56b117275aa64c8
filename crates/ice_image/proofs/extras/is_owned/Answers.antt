use Rattle.std.proofs.Common.{◌∙◌}
use Rattle.ice_image.proofs.Owned.{is_owned-answer}
use Rattle.ice_image.proofs.extras.is_owned.Goals as goal

pub returns : goal.returns
returns c = c.is_some.ensures ∙ is_owned-answer c.args.layout.now c.args.at _ c.owner_of.ensures.owner
