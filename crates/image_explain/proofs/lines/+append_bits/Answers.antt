use Rattle.std.proofs.Common.{arith}
use Rattle.std.proofs.lemmas.Result.{on_ok_weaker}
use Rattle.image_explain.proofs.Texts.{bits-written}
use Rattle.image_explain.proofs.lines.+append_bits.Goals as goal

pub returns : goal.returns
returns t c =
    on_ok_weaker c.append_bits.result (λ rest. bits-written c.args.text.now.items c.append_bit.new.text.items c.append_bits.new.text.items c.args.count c.args.number (omega arith) c.in_ok-append_bit.ensures rest) c.append_bits.ensures
