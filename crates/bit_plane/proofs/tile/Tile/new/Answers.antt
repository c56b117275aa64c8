use Rattle.bit_plane.proofs.TileRows.{words-zeros}
use Rattle.bit_plane.proofs.tile.Tile.new.Goals as goal

pub returns : goal.returns
returns g c = words-zeros g.row.C 16
