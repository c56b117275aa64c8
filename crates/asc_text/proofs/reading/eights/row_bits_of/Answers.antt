use Rattle.std.proofs.Common.{◌∙◌, ◌%◌, length, arith}
use Rattle.asc_text.proofs.Overlaps.{odds-overlap, bits-overlap}
use Rattle.asc_text.proofs.reading.eights.row_bits_of.Goals as goal

pub returns-clause-ones : goal.returns-clause-ones
returns-clause-ones c = odds-overlap c.args.line.now (length c.args.line.now % 8) _ _ (omega arith) (omega arith) c.requires.short (c.from.ensures ∙ c.eight_at-head.ensures.ones) c.in_eights-tail.ensures.ones

pub returns-clause-bits : goal.returns-clause-bits
returns-clause-bits c = bits-overlap c.args.line.now (length c.args.line.now % 8) c.eight_at-head.result.are_bits c.in_eights-tail.result.are_bits (omega arith) c.eight_at-head.ensures.bits c.in_eights-tail.ensures.bits
