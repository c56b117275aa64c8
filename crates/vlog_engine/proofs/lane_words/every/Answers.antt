use Rattle.std.proofs.Common.{sym, ◌∙◌}
use Rattle.vlog_engine.proofs.Bits.{bit-ones, bit-zero}
use Rattle.vlog_engine.proofs.lane_words.every.Goals as goal

pub returns-then-bit : goal.returns-then-bit
returns-then-bit c lane within = bit-ones lane within ∙ sym c.if-bit.true

pub returns-else-bit : goal.returns-else-bit
returns-else-bit c lane within = bit-zero lane ∙ sym c.if-bit.false
