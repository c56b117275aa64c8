use Rattle.std.proofs.Common.{◌≡◌, take}
use Rattle.bit_plane.specs.Rows.{IsGrid, rows_from}
use Rattle.ice_image.specs.Configuration.{place_bit}
use Rattle.ice_image.specs.Contents.{tile_place}
use Rattle.ice_image.proofs.tiles.read_tile.Given as goal

abbrev pub invariant-loop-row : goal.invariant-loop-row
invariant-loop-row g l = (take l.row l.tile ≡ rows_from g.row.C l.row (λ col row. place_bit l.cram (tile_place l.layout l.x l.y row col))) × IsGrid g.row.C 16 l.tile
