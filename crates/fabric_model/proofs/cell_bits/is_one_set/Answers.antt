use Rattle.std.proofs.Common.{◌<◌, ◌≤◌, length, arith, false, sym, ◌∙◌}
use Rattle.std.proofs.lemmas.List.Folds.{list_any_at}
use Rattle.ice_image.specs.Either.{configuration_of}
use Rattle.fabric_model.specs.On.{bits_at}
use Rattle.fabric_model.proofs.Listed.{none_set, length-bits_at}
use Rattle.fabric_model.proofs.cell_bits.is_one_set.Goals as goal

pub returns-then-listed_bit : goal.returns-then-listed_bit
returns-then-listed_bit c =
    let image = configuration_of c.args.image.now in
    let inside : c.loop-k.k < length (bits_at image c.args.x c.args.y c.args.bits.now) = omega (arith, length-bits_at image c.args.x c.args.y c.args.bits.now) in
    sym (list_any_at (λ bit. bit) (bits_at image c.args.x c.args.y c.args.bits.now) c.loop-k.k false inside (sym c.listed_bit.ensures ∙ c.if-listed_bit.true))

pub returns : goal.returns
returns c =
    let image = configuration_of c.args.image.now in
    let few : length (bits_at image c.args.x c.args.y c.args.bits.now) ≤ c.loop-k.k = omega (arith, length-bits_at image c.args.x c.args.y c.args.bits.now) in
    sym (none_set (bits_at image c.args.x c.args.y c.args.bits.now) c.loop-k.k few c.loop-k.invariant)
