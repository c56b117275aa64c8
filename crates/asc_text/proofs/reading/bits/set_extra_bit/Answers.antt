use Rattle.ice_image.specs.Either.{configuration_of}
use Rattle.asc_text.proofs.Gains.{Gains-extra}
use Rattle.asc_text.proofs.reading.bits.set_extra_bit.Goals as goal

pub returns-clause-bits : goal.returns-clause-bits
returns-clause-bits c = Gains-extra (configuration_of c.args.image.now) _ c.args.at c.set_extra_bit.ensures.bits
