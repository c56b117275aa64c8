use Rattle.std.proofs.Common.{◌∙◌, arith}
use Rattle.fabric_module.proofs.NameBytes.{pad-bytes}
use Rattle.fabric_module.proofs.names.pad_name.Goals as goal

pub new-requires : goal.new-requires
new-requires c = pad-bytes c.args.x c.args.y c.args.n c.bytes.result.now (c.bytes.ensures ∙ c.three_numbers-text.ensures.text) (omega arith) (omega arith) (omega arith)
