use Rattle.std.proofs.Common.{ℕ, ◌-◌, Bool, arith, refl, slice_index}
use Rattle.ice_image.specs.Bits.{number_bit}
use Rattle.ice_image.proofs.Made.{row_word-none, row_word-more, row_word-double, row_word-lt}
use Rattle.ice_image.proofs.Spread.{bit-number}
use Rattle.ice_image.proofs.columns.gathered_from.Goals as goal

pub loop-col-init : goal.loop-col-init
loop-col-init c = row_word-none 18 (λ col. number_bit c.args.run_bits (slice_index c.args.columns.now col))

pub overflow_mul-gathered : goal.overflow_mul-gathered
overflow_mul-gathered c =
    omega (arith, row_word-double 18 (λ col. number_bit c.args.run_bits (slice_index c.args.columns.now col)) c.loop-col.col c.loop-col.gathered (omega arith) (omega arith) c.loop-col.invariant)

pub overflow_add-gathered : goal.overflow_add-gathered
overflow_add-gathered c =
    let bit : ℕ → Bool = λ col. number_bit c.args.run_bits (slice_index c.args.columns.now col) in
    let col = c.loop-col.col in
    let more = row_word-more 18 bit col c.loop-col.gathered _ (bit (col - 1)) (omega arith) (omega arith) c.loop-col.invariant (bit-number c.args.run_bits (slice_index c.args.columns.now (col - 1))) refl in
    omega (arith, more, row_word-lt 18 bit (col - 1))

pub loop-col-preserved : goal.loop-col-preserved
loop-col-preserved c =
    let bit : ℕ → Bool = λ col. number_bit c.args.run_bits (slice_index c.args.columns.now col) in
    let col = c.loop-col.col in
    row_word-more 18 bit col c.loop-col.gathered _ (bit (col - 1)) (omega arith) (omega arith) c.loop-col.invariant (bit-number c.args.run_bits (slice_index c.args.columns.now (col - 1))) refl
