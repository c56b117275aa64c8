use Rattle.std.proofs.Common.{arith}
use Rattle.ice_image.proofs.InOrder.{extras-all}
use Rattle.ice_image.proofs.extras.extras_of.Goals as goal

pub returns : goal.returns
returns g c =
    extras-all c.args.layout.now c.args.cram.now c.loop-bank.bank c.loop-bank.places.items (omega arith) c.loop-bank.invariant
