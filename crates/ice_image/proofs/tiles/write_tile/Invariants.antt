use Rattle.ice_image.specs.Configuration.{AreBanks}
use Rattle.ice_image.specs.Written.{AreRowsWritten}
use Rattle.ice_image.proofs.tiles.write_tile.Given as goal

abbrev pub invariant-loop-row : goal.invariant-loop-row
invariant-loop-row g l = AreRowsWritten l.layout l.x l.y g.row.C l.tile l.row l.initial.cram l.cram × AreBanks g.P.Bits.WIDTH g.P.Bits.HEIGHT l.cram
