use Rattle.std.proofs.Common.{Bool, refl, arith}
use Rattle.std.proofs.lemmas.Bool.{false≢true}
use Rattle.plane_map.specs.declared.tile.RowCol.{RowCol}
use Rattle.ice_image.specs.Bits.{tile_bit_of}
use Rattle.ice_image.proofs.Listed.{agree-more, agree-all, differ-at}
use Rattle.ice_image.proofs.image.Image.tile_equals.Goals as goal

pub loop-index-init : goal.loop-index-init
loop-index-init g c = record { same = λ k below. absurd (omega arith) }

pub returns-then-tile_bit-values : goal.returns-then-tile_bit-values
returns-then-tile_bit-values g c =
    let is_set : RowCol → Bool = λ bit. tile_bit_of c.args.self.now c.args.x c.args.y bit.row bit.col in
    (λ h. absurd (false≢true h), λ same. absurd (differ-at is_set c.args.bits.now c.args.values c.loop-index.index _ c.tile_bit.result (omega arith) c.tile_bit.ensures.bit c.if-tile_bit-values.true same))

pub loop-index-preserved : goal.loop-index-preserved
loop-index-preserved g c =
    let is_set : RowCol → Bool = λ bit. tile_bit_of c.args.self.now c.args.x c.args.y bit.row bit.col in
    agree-more is_set c.args.bits.now c.args.values c.loop-index.index _ c.tile_bit.result (omega arith) c.loop-index.invariant c.tile_bit.ensures.bit c.if-tile_bit-values.false

pub returns : goal.returns
returns g c =
    let is_set : RowCol → Bool = λ bit. tile_bit_of c.args.self.now c.args.x c.args.y bit.row bit.col in
    (λ h. agree-all is_set c.args.bits.now c.args.values c.loop-index.index (omega arith) c.loop-index.invariant, λ same. refl)
