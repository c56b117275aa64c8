use Rattle.std.proofs.Common.{◌≡◌, false, ltb, sym, ◌∙◌, arith}
use Rattle.vlog_semantics.proofs.Numbers.{bit_of-high}
use Rattle.vlog_semantics.proofs.steps.bit_of.Goals as goal

pub returns-else-k-lt16 : goal.returns-else-k-lt16
returns-else-k-lt16 c =
    let above : ltb c.args.k 16 ≡ false = grind arith in
    above ∙ sym (bit_of-high c.args.word c.args.k (omega arith) (omega arith))
