use Rattle.ice_image.specs.Configuration.{AreBanks}
use Rattle.ice_image.specs.Written.{AreMarked}
use Rattle.ice_image.proofs.extras.mark_banks.Given as goal

abbrev pub invariant-loop-bank : goal.invariant-loop-bank
invariant-loop-bank g l = AreMarked l.layout l.bank l.owned × AreBanks g.P.Bits.WIDTH g.P.Bits.HEIGHT l.owned
