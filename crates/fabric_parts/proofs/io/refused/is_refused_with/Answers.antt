use Rattle.std.proofs.Common.{◌∙◌}
use Rattle.fabric_parts.proofs.PinsListed.{refused-said}
use Rattle.fabric_parts.proofs.io.refused.is_refused_with.Goals as goal

pub returns : goal.returns
returns c = c.is_refused_by_type.ensures ∙ refused-said c.args.db.now c.args.image.now c.args.pin c.args.pintype c.requires
