use Rattle.std.proofs.Common.{arith}
use Rattle.text_lines.proofs.Leading.{digits-room}
use Rattle.text_lines.proofs.decimal.leading_number.Goals as goal

pub overflow_mul-number : goal.overflow_mul-number
overflow_mul-number c =
    let room = digits-room c.args.text.now c.loop-digits.digits c.loop-digits.number c.loop-digits.invariant c.if-digits-lt9.true in
    omega (arith, room)

pub overflow_add-number : goal.overflow_add-number
overflow_add-number c =
    let room = digits-room c.args.text.now c.loop-digits.digits c.loop-digits.number c.loop-digits.invariant c.if-digits-lt9.true in
    omega (arith, room, c.from.ensures)
