use Rattle.std.proofs.Common.{ap₂, ◌∙◌, ◌++◌, subst, arith}
use Rattle.fabric_module.specs.Names.{three_numbers}
use Rattle.fabric_module.proofs.Apart.{IsSmall}
use Rattle.fabric_module.proofs.NameBytes.{register-bytes}
use Rattle.fabric_module.proofs.names.register_name.Goals as goal

pub new-requires : goal.new-requires
new-requires c =
    register-bytes c.args.register.now c.bytes.result.now
    (c.bytes.ensures ∙ (c.three_numbers-text.ensures.text
    ∙ ap₂ (λ prefix n. prefix ++ three_numbers c.args.register.now.x c.args.register.now.y n) c.register_prefix.ensures c.register_number-n.ensures))
    (omega arith) (omega arith) (subst IsSmall c.register_number-n.ensures (omega arith))
