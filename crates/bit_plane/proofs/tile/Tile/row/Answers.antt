use Rattle.std.proofs.Common.{arith}
use Rattle.std.proofs.Common.{subst}
use Rattle.bit_plane.specs.Rows.{IsGrid}
use Rattle.bit_plane.proofs.TileRows.{row_at-words, IsGrid-words}
use Rattle.bit_plane.proofs.tile.Tile.row.Goals as goal

pub returns-clause-word : goal.returns-clause-word
returns-clause-word g c =
    row_at-words g.row.C c.self.inside.words c.args.self.now c.args.row c.self.view_is (omega (arith, c.self.told)) (c.self.invariant.1 c.args.row 0 (omega (arith, c.self.told)))

pub returns-clause-grid : goal.returns-clause-grid
returns-clause-grid g c =
    subst (IsGrid g.row.C 16) c.self.view_is (IsGrid-words g.row.C 16 c.self.inside.words c.self.told)
