use Rattle.std.proofs.Common.{◌∙◌, arith}
use Rattle.fabric_module.proofs.NameBytes.{memory-bytes}
use Rattle.fabric_module.proofs.names.memory_name.Goals as goal

pub new-requires : goal.new-requires
new-requires c = memory-bytes c.args.ram.now c.bytes.result.now (c.bytes.ensures ∙ c.two_numbers-text.ensures) (omega arith) (omega arith)
