use Rattle.std.proofs.Common.{◌∙◌, List, ℕ, subst}
use Rattle.std.specs.Prelude.{IfOk, IfErr}
use Rattle.tool_run.specs.Tasks.{Done}
use Rattle.tool_inputs.specs.Databases.{database_read}
use Rattle.selfrun_tool.specs.Inside.{StopsAs}
use Rattle.selfrun_tool.specs.Selfrun.{IsAnswerBy}
use Rattle.selfrun_tool.proofs.running.told.Goals as goal

pub returns-clause-bytes : goal.returns-clause-bytes
returns-clause-bytes c =
    subst (λ (text : List ℕ). IfOk c.told_from.result (λ bytes. IsAnswerBy c.args.request (database_read text) (Done bytes.items))) (c.deref.ensures.value ∙ c.in_ok-text.ensures.text)
    c.told_from.ensures.bytes

pub returns-clause-stops : goal.returns-clause-stops
returns-clause-stops c =
    subst (λ (text : List ℕ). IfErr c.told_from.result (StopsAs (IsAnswerBy c.args.request (database_read text)))) (c.deref.ensures.value ∙ c.in_ok-text.ensures.text) c.told_from.ensures.stops
