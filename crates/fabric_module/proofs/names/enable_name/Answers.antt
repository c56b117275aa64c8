use Rattle.std.proofs.Common.{◌∙◌, ap, ◌++◌, arith}
use Rattle.std.specs.Prelude.{codes}
use Rattle.fabric_module.proofs.NameBytes.{enable-bytes}
use Rattle.fabric_module.proofs.names.enable_name.Goals as goal

pub new-requires : goal.new-requires
new-requires c =
    enable-bytes c.args.pin.now c.bytes.result.now
    (c.bytes.ensures ∙ (c.push.ensures ∙ ap (λ text. text ++ codes "_en") c.three_numbers-text.ensures.text)) (omega arith) (omega arith) (omega arith)
