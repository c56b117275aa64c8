use Rattle.std.proofs.Common.{◌∙◌, ◌++◌, ap, arith}
use Rattle.fabric_module.proofs.NameBytes.{pll-bytes}
use Rattle.fabric_module.proofs.names.pll_name.Goals as goal

pub new-requires : goal.new-requires
new-requires c =
    pll-bytes c.args.x c.args.y c.args.output c.of-text.result c.push_number.new.self c.push.new.self c.push_number-2.new.self c.push-2.new.self c.bytes.result.now
    c.of-text.ensures c.push_number.ensures.pushed c.push.ensures c.push_number-2.ensures.pushed c.push-2.ensures
    (c.bytes.ensures ∙ (c.push-3.ensures ∙ ap (λ word. c.push-2.new.self ++ word) c.output_word.ensures.word)) (omega arith) (omega arith)
