use Rattle.std.proofs.Common.{length-set, ◌∙◌}
use Rattle.bit_plane.proofs.TileRows.{with_row-words, IsGrid-words}
use Rattle.bit_plane.proofs.tile.Tile.set_row.Goals as goal

pub returns-clause-bits : goal.returns-clause-bits
returns-clause-bits g c =
    with_row-words g.row.C c.self.inside.words c.args.self.now c.args.row c.args.bits c.self.view_is

pub returns-clause-grid : goal.returns-clause-grid
returns-clause-grid g c =
    IsGrid-words g.row.C 16 _ (length-set c.self.inside.words c.args.row c.args.bits ∙ c.self.told)
