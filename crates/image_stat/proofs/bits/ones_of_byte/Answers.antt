use Rattle.std.proofs.Common.{arith}
use Rattle.image_stat.proofs.Ones.{ones-byte}
use Rattle.image_stat.proofs.bits.ones_of_byte.Goals as goal

pub returns-clause-ones : goal.returns-clause-ones
returns-clause-ones c = ones-byte c.args.byte (omega (arith, c.ranges.byte))
