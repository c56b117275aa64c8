use Rattle.std.proofs.Common.{◌∙◌, ap, ◌++◌, arith}
use Rattle.std.specs.Prelude.{codes}
use Rattle.fabric_module.proofs.NameBytes.{outside-bytes}
use Rattle.fabric_module.proofs.names.outside_name.Goals as goal

pub new-requires : goal.new-requires
new-requires c =
    outside-bytes c.args.x c.args.y c.args.n c.bytes.result.now
    (c.bytes.ensures ∙ (c.push.ensures ∙ ap (λ text. text ++ codes "_in") c.three_numbers-text.ensures.text)) (omega arith) (omega arith) (omega arith)
