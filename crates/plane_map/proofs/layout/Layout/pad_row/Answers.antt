use Rattle.plane_map.proofs.Offsets.{places-from, entry-below}
use Rattle.plane_map.proofs.layout.Layout.pad_row.Goals as goal

pub returns-clause-in_tile : goal.returns-clause-in_tile
returns-clause-in_tile c = entry-below c.self.inside.pad_rows 16 16 (places-from c.self.inside.pad_rows 16 16 c.self.invariant.layout.pad_rows) c.args.row c.requires
