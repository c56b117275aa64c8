use Rattle.std.proofs.Common.{[], ap, sym, ◌∙◌}
use Rattle.vlog_semantics.specs.Steps.{operand_value}
use Rattle.vlog_engine.specs.Lanes.{lane_bits}
use Rattle.vlog_engine.proofs.Bits.{bit-zero}
use Rattle.vlog_engine.proofs.reading.operand_at.Goals as goal

pub returns-in-Part : goal.returns-in-Part
returns-in-Part g c lane within =
    c.every-in-Part.ensures lane within
    ∙ sym (bit-zero c.in-Part.k)
    ∙ sym (ap (operand_value (lane_bits g.V.Value.at lane c.args.cells.now) []) c.in-Part.is)
