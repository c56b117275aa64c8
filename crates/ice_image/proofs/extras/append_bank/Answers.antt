use Rattle.std.proofs.Common.{arith}
use Rattle.ice_image.proofs.InOrder.{extras-bank}
use Rattle.ice_image.proofs.extras.append_bank.Goals as goal

pub returns : goal.returns
returns g c =
    extras-bank c.args.layout.now c.args.cram.now c.args.bank c.loop-py.py c.loop-py.places.items (omega (arith, c.requires.size.height_is)) c.loop-py.invariant
