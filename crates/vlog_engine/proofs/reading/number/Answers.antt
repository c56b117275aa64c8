use Rattle.std.proofs.Common.{◌≡◌, [], drop, sym, ap, ◌∙◌, arith}
use Rattle.std.specs.Prelude.{map}
use Rattle.vlog_semantics.specs.Steps.{operand_value}
use Rattle.vlog_semantics.specs.Values.{number_of}
use Rattle.vlog_semantics.proofs.Numbers.{number-none, number-next, number-fits, number-small, byte_lt}
use Rattle.vlog_engine.specs.Lanes.{lane_bits}
use Rattle.vlog_engine.proofs.reading.number.Goals as goal

pub loop-place-init : goal.loop-place-init
loop-place-init g c = sym (number-none (operand_value (lane_bits g.V.Value.at c.args.lane c.args.cells.now) []) c.args.operands.now)

pub overflow_mul-number : goal.overflow_mul-number
overflow_mul-number g c =
    omega (arith, number-fits (operand_value (lane_bits g.V.Value.at c.args.lane c.args.cells.now) []) c.args.operands.now c.loop-place.place c.requires.few)

pub overflow_add-number : goal.overflow_add-number
overflow_add-number g c =
    omega (arith, byte_lt c.operand_bit-bit.result, c.from.ensures, number-fits (operand_value (lane_bits g.V.Value.at c.args.lane c.args.cells.now) []) c.args.operands.now c.loop-place.place c.requires.few)

pub loop-place-preserved : goal.loop-place-preserved
loop-place-preserved g c =
    number-next (operand_value (lane_bits g.V.Value.at c.args.lane c.args.cells.now) []) c.args.operands.now c.loop-place.place _ c.loop-place.number c.from.result c.operand_bit-bit.result
    (omega arith) (omega arith) c.operand_bit-bit.ensures c.loop-place.invariant c.from.ensures

pub returns-clause-is : goal.returns-clause-is
returns-clause-is g c =
    let first : c.loop-place.place ≡ 0 = omega arith in
    c.loop-place.invariant ∙ ap (λ i. number_of (map (operand_value (lane_bits g.V.Value.at c.args.lane c.args.cells.now) []) (drop i c.args.operands.now))) first

pub returns-clause-small : goal.returns-clause-small
returns-clause-small g c =
    let first : c.loop-place.place ≡ 0 = omega arith in
    let is = c.loop-place.invariant ∙ ap (λ i. number_of (map (operand_value (lane_bits g.V.Value.at c.args.lane c.args.cells.now) []) (drop i c.args.operands.now))) first in
    omega (arith, is, number-small (operand_value (lane_bits g.V.Value.at c.args.lane c.args.cells.now) []) c.args.operands.now)
