use Rattle.chipdb_lines.specs.Statements.{block_of}
use Rattle.chipdb_lines.proofs.statements.below_chip.Goals as goal

pub returns-in-GlobalInputs-clause-says : goal.returns-in-GlobalInputs-clause-says
unfolding block_of
returns-in-GlobalInputs-clause-says c = rw c.in-GlobalInputs.is (c.alone.ensures.says c.args.bits.now)

pub returns-in-GlobalPins-clause-says : goal.returns-in-GlobalPins-clause-says
unfolding block_of
returns-in-GlobalPins-clause-says c = rw c.in-GlobalPins.is (c.alone-in-GlobalPins.ensures.says c.args.bits.now)

pub returns-in-Tile-clause-says : goal.returns-in-Tile-clause-says
unfolding block_of
returns-in-Tile-clause-says c = rw c.in-Tile.is (c.tile.ensures.says c.args.bits.now)

pub returns-in-TileBits-clause-says : goal.returns-in-TileBits-clause-says
unfolding block_of
returns-in-TileBits-clause-says c = rw c.in-TileBits.is (c.functions.ensures.says c.args.bits.now)

pub returns-in-ExtraBits-clause-says : goal.returns-in-ExtraBits-clause-says
unfolding block_of
returns-in-ExtraBits-clause-says c = rw c.in-ExtraBits.is (c.alone-in-ExtraBits.ensures.says c.args.bits.now)

pub returns-in-Net-clause-says : goal.returns-in-Net-clause-says
unfolding block_of
returns-in-Net-clause-says c = rw c.in-Net.is (c.net.ensures.says c.args.bits.now)

pub returns-in-Tile-clause-added : goal.returns-in-Tile-clause-added
returns-in-Tile-clause-added c = c.tile.ensures.added c.args.bits.now

pub returns-in-TileBits-clause-added : goal.returns-in-TileBits-clause-added
returns-in-TileBits-clause-added c = c.functions.ensures.added c.args.bits.now

pub returns-in-Net-clause-added : goal.returns-in-Net-clause-added
returns-in-Net-clause-added c = c.net.ensures.added c.args.bits.now

pub returns-in-ExtraCell-clause-added : goal.returns-in-ExtraCell-clause-added
returns-in-ExtraCell-clause-added c = c.extra_cell.ensures.added c.args.bits.now
