use Rattle.std.proofs.Common.{◌≡◌, ◌<◌, ℕ, false, get_or}
use Rattle.ice_image.specs.Either.{configuration_of}
use Rattle.fabric_model.specs.On.{bits_at}
use Rattle.fabric_model.proofs.cell_bits.is_one_set.Given as goal

abbrev pub invariant-loop-k : goal.invariant-loop-k
invariant-loop-k l = (k : ℕ) → k < l.k → get_or (bits_at (configuration_of l.image) l.x l.y l.bits) k false ≡ false
