use Rattle.std.proofs.Common.{◌++◌, ap, ◌∙◌, arith}
use Rattle.std.specs.Prelude.{decimal}
use Rattle.fabric_module.proofs.NameBytes.{wire-bytes}
use Rattle.fabric_module.proofs.names.wire_name.Goals as goal

pub new-requires : goal.new-requires
new-requires c =
    wire-bytes c.args.class c.bytes.result.now (c.bytes.ensures ∙ (c.push_number.ensures.pushed ∙ ap (λ text. text ++ decimal c.args.class) c.of-text.ensures)) (omega arith)
