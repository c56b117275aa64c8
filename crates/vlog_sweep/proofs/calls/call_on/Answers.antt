use Rattle.std.proofs.Common.{ℕ, Bool, ap, arith, sym, ◌∙◌}
use Rattle.vlog_sweep.specs.Strands.{has_bit, is_on, next_of}
use Rattle.vlog_sweep.specs.declared.strand.Strand.{Strand}
use Rattle.vlog_semantics.proofs.Numbers.{byte_lt, number-next, number-none}
use Rattle.vlog_sweep.proofs.Bits.{number-room}
use Rattle.vlog_sweep.proofs.calls.call_on.Goals as goal

abbrev on : ℕ → Strand → Bool
on pin strand = is_on pin (next_of strand)

abbrev bit : Strand → Bool
bit strand = has_bit (next_of strand)

pub loop-lane-init : goal.loop-lane-init
loop-lane-init c = record {
  active = sym (number-none (on c.args.pin) c.args.strands.now);
  bits = sym (number-none bit c.args.strands.now);
}

pub overflow_mul-active : goal.overflow_mul-active
overflow_mul-active c = omega (arith, c.loop-lane.invariant.active, number-room (on c.args.pin) c.args.strands.now c.loop-lane.lane (omega arith) c.requires)

pub overflow_add-active : goal.overflow_add-active
overflow_add-active c =
    omega (arith, c.loop-lane.invariant.active, byte_lt c.is_on.result, c.from.ensures, number-room (on c.args.pin) c.args.strands.now c.loop-lane.lane (omega arith) c.requires)

pub overflow_mul-bits : goal.overflow_mul-bits
overflow_mul-bits c = omega (arith, c.loop-lane.invariant.bits, number-room bit c.args.strands.now c.loop-lane.lane (omega arith) c.requires)

pub overflow_add-bits : goal.overflow_add-bits
overflow_add-bits c =
    omega (arith, c.loop-lane.invariant.bits, byte_lt c.has_bit.result, c.from-in-loop-lane.ensures, number-room bit c.args.strands.now c.loop-lane.lane (omega arith) c.requires)

pub loop-lane-preserved : goal.loop-lane-preserved
loop-lane-preserved c =
    let strands = c.args.strands.now in
    let lane = c.loop-lane.lane in
    let item = c.index-strands-lane.result in
    record {
      active = number-next (on c.args.pin) strands lane item c.loop-lane.active c.from.result c.is_on.result (omega arith) (omega arith)
          (c.is_on.ensures ∙ ap (is_on c.args.pin) c.next_event-event.ensures ∙ ap (on c.args.pin) c.index-strands-lane.is) c.loop-lane.invariant.active c.from.ensures;
      bits = number-next bit strands lane item c.loop-lane.bits c.from-in-loop-lane.result c.has_bit.result (omega arith) (omega arith)
          (c.has_bit.ensures ∙ ap has_bit c.next_event-event.ensures ∙ ap bit c.index-strands-lane.is) c.loop-lane.invariant.bits c.from-in-loop-lane.ensures;
    }
