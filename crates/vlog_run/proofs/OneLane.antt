-- What a runner's only lane has.
use Rattle.std.proofs.Common.{◌≡◌, Bool, List, [], ◌∷◌, Option, Some, None, ap, refl}
use Rattle.std.specs.Option.{option_map}
use Rattle.vlog_engine.specs.Lanes.{lane_bits}

pub own-bits : (bits : List Bool) → lane_bits (λ bit lane. bit) 0 bits ≡ bits
own-bits [] = refl
own-bits (bit ∷ bits) = ap (λ list. bit ∷ list) (own-bits bits)

pub own-option : (found : Option Bool) → option_map (λ bit. bit) found ≡ found
own-option (Some bit) = refl
own-option None = refl
