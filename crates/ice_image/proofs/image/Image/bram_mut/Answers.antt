use Rattle.ice_image.proofs.BankBits.{AreBanks-with_bank}
use Rattle.ice_image.proofs.Sizes.{image_of-bram}
use Rattle.ice_image.proofs.image.Image.bram_mut.Goals as goal

pub invariant_of-self-lent : goal.invariant_of-self-lent
invariant_of-self-lent g c plane =
    image_of-bram _ _ _ _ _ _ c.self.invariant _ (AreBanks-with_bank _ _ c.self.inside.bram _ (g.D.Bram.Bits.rows plane) c.self.invariant.bram (g.met.D.Bram.Bits.is_grid plane))
