use Rattle.std.proofs.Common.{◌∙◌, ap}
use Rattle.std.proofs.lemmas.Result.{IfOk-weaker}
use Rattle.selfrun_tool.specs.Counted.{counts_text}
use Rattle.selfrun_tool.proofs.running.design_text.Goals as goal

pub returns : goal.returns
returns c =
    IfOk-weaker c.text_of.result _ _
    (λ text shown entries run. shown ∙ ap (counts_text c.args.request.device) (c.in_ok-counts.ensures entries run))
    c.text_of.ensures
