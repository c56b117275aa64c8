use Rattle.plane_map.proofs.Offsets.{places-from, entry-below}
use Rattle.plane_map.proofs.layout.Layout.bank.Goals as goal

pub returns-clause-in_plane : goal.returns-clause-in_plane
returns-clause-in_plane c = entry-below c.self.inside.banks 4 4 (places-from c.self.inside.banks 4 4 c.self.invariant.layout.banks) c.args.quarter c.requires
