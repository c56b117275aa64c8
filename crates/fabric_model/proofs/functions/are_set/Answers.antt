use Rattle.std.proofs.Common.{◌<◌, ◌≤◌, length, arith, sym, ◌∙◌}
use Rattle.ice_image.specs.Either.{configuration_of}
use Rattle.fabric_model.specs.On.{bits_at, are_set}
use Rattle.fabric_model.proofs.Listed.{all_set, all_set-not, length-bits_at}
use Rattle.fabric_model.proofs.functions.are_set.Goals as goal

pub returns-then-not-listed_bit : goal.returns-then-not-listed_bit
unfolding are_set
returns-then-not-listed_bit c =
    let image = configuration_of c.args.image.now in
    let inside : c.loop-k.k < length (bits_at image c.args.x c.args.y c.args.bits.now) = omega (arith, length-bits_at image c.args.x c.args.y c.args.bits.now) in
    sym (all_set-not (bits_at image c.args.x c.args.y c.args.bits.now) c.loop-k.k inside (sym c.listed_bit.ensures ∙ c.if-not-listed_bit.true))

pub returns : goal.returns
unfolding are_set
returns c =
    let image = configuration_of c.args.image.now in
    let few : length (bits_at image c.args.x c.args.y c.args.bits.now) ≤ c.loop-k.k = omega (arith, length-bits_at image c.args.x c.args.y c.args.bits.now) in
    sym (all_set (bits_at image c.args.x c.args.y c.args.bits.now) c.loop-k.k few c.loop-k.invariant)
