use Rattle.std.proofs.Common.{◌∙◌}
use Rattle.bit_plane.proofs.Parts.{part_is}
use Rattle.bit_plane.proofs.order.part.Goals as goal

pub returns : goal.returns
returns c = c.low.ensures ∙ part_is c.args.word c.args.at c.args.count c.requires.count
