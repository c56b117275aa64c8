use Rattle.bit_plane.proofs.Exchanges.{exchanged-bit}
use Rattle.bit_plane.proofs.reversal.exchanged.Goals as goal

pub returns : goal.returns
returns c = λ k within. exchanged-bit c.args.word c.args.shift c.args.mask k within (c.requires.pairs k within)
