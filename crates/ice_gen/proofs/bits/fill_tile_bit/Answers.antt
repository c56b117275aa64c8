use Rattle.std.proofs.Common.{ℕ, ◌+◌, ◌<◌, ◌∙◌, refl, arith}
use Rattle.std.proofs.lemmas.Bool.{lt-ltb}
use Rattle.ice_image.specs.Either.{configuration_of, device_of}
use Rattle.ice_image.specs.Bits.{OfTile}
use Rattle.ice_gen.specs.Inside.{is_tile_before, turn}
use Rattle.ice_gen.proofs.Filled.{filled-past, filled-set, tile-step}
use Rattle.ice_gen.proofs.bits.fill_tile_bit.Goals as goal

pub returns-then-bit-clause-filled : goal.returns-then-bit-clause-filled
returns-then-bit-clause-filled c =
    let device = device_of c.args.image.now in
    let at = c.args.at in
    let t : ℕ = turn at.x at.y at.row at.col in
    let more : t < t + 1 = omega arith in
    λ seed gen filled.
    filled-set device seed (is_tile_before t) (is_tile_before (t + 1)) (OfTile at) (configuration_of c.args.image.now) (configuration_of c.set_tile_bit.new.self) (tile-step device at t c.requires refl) (lt-ltb t (t + 1) more) (gen ∙ c.if-bit.true) c.set_tile_bit.ensures.bits filled

pub returns-else-bit-clause-filled : goal.returns-else-bit-clause-filled
returns-else-bit-clause-filled c =
    let device = device_of c.args.image.now in
    let at = c.args.at in
    let t : ℕ = turn at.x at.y at.row at.col in
    λ seed gen filled.
    filled-past device seed (is_tile_before t) (is_tile_before (t + 1)) (OfTile at) (configuration_of c.args.image.now) (tile-step device at t c.requires refl) (gen ∙ c.if-bit.false) filled
