use Rattle.std.proofs.Common.{◌-◌, ◌<◌, ◌∙◌, get_or, sym, arith}
use Rattle.chipdb_lines.proofs.Values.{value-byte, Writes-more, Writes-nothing, Writes-room}
use Rattle.chipdb_lines.proofs.links.values_in.Goals as goal

pub loop-left-init : goal.loop-left-init
loop-left-init c = record { within = omega arith; written = Writes-nothing c.args.word.now }

pub overflow_mul-values : goal.overflow_mul-values
overflow_mul-values c =
    let room = Writes-room c.args.word.now c.loop-left.left c.loop-left.values c.loop-left.invariant.written c.loop-left-test.true c.loop-left.invariant.within c.requires in
    omega (arith, room)

pub overflow_add-values : goal.overflow_add-values
overflow_add-values c =
    let byte = get_or c.args.word.now (c.loop-left.left - 1) 0 in
    let room = Writes-room c.args.word.now c.loop-left.left c.loop-left.values c.loop-left.invariant.written c.loop-left-test.true c.loop-left.invariant.within c.requires in
    let bit : byte - 48 < 2 = (value-byte byte (sym c.is_value.ensures ∙ c.if-not-is_value.false)).0 in
    rw c.from.ensures (omega (arith, room, bit))

pub loop-left-preserved : goal.loop-left-preserved
loop-left-preserved c =
    let more = Writes-more c.args.word.now c.loop-left.left c.loop-left.values c.loop-left.invariant.written c.loop-left-test.true c.loop-left.invariant.within
    (sym c.is_value.ensures ∙ c.if-not-is_value.false) in
    let within = c.loop-left.invariant.within in
    rw c.from.ensures (record { within = omega (arith, within); written = more })
