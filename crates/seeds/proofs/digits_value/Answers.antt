use Rattle.std.proofs.Common.{◌<◌, arith}
use Rattle.seeds.proofs.Seeds.{below_twenty}
use Rattle.seeds.proofs.digits_value.Goals as goal

pub overflow_mul-value : goal.overflow_mul-value
overflow_mul-value c =
    let small : c.loop-digit.value < 10000000000000000000 = below_twenty c.loop-digit.value c.loop-digit.digit-index c.loop-digit.invariant.small (omega (arith, c.requires.few)) in
    omega arith

pub overflow_add-value : goal.overflow_add-value
overflow_add-value c =
    let small : c.loop-digit.value < 10000000000000000000 = below_twenty c.loop-digit.value c.loop-digit.digit-index c.loop-digit.invariant.small (omega (arith, c.requires.few)) in
    omega (arith, c.from.ensures)
