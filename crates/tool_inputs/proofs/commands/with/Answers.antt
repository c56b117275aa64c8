use Rattle.std.proofs.Common.{◌∙◌, ap₂}
use Rattle.std.proofs.lemmas.Result.{IfOk-weaker}
use Rattle.clap.specs.Words.{with_rule}
use Rattle.tool_inputs.proofs.commands.with.Goals as goal

pub returns : goal.returns
returns c = IfOk-weaker c.arg.result _ _ (λ command added. λ app rule same_app same_rule. added.shape c.requires ∙ ap₂ with_rule same_app same_rule) c.arg.ensures
