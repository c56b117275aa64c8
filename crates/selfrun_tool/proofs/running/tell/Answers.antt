use Rattle.std.proofs.Common.{◌∙◌, ap, refl, subst}
use Rattle.std.specs.Prelude.{None, Some}
use Rattle.tool_run.specs.declared.line.Refusal.{Refusal}
use Rattle.tool_run.specs.Lines.{refusal_text}
use Rattle.tool_run.specs.Tasks.{Done, Refused, at_once}
use Rattle.tool_run.proofs.Same.{Does-same}
use Rattle.selfrun_tool.specs.Inside.{StopsAs}
use Rattle.selfrun_tool.specs.Selfrun.{IsAnswer, selfrun_name}
use Rattle.selfrun_tool.proofs.Answer.{same-answer}
use Rattle.selfrun_tool.proofs.running.tell.Goals as goal

pub returns-in-Ok : goal.returns-in-Ok
returns-in-Ok g c answer given =
    let same = same-answer (Some c.args.request) (Done c.in-Ok.text.items) answer c.in-Ok.ensures.bytes given in
    Does-same _ _ _ _ _ _ (ap (at_once selfrun_name None) (ap Done c.deref.ensures.value ∙ same)) c.perform.ensures

pub returns-in-Err-Refused : goal.returns-in-Err-Refused
returns-in-Err-Refused g c answer given =
    let stopped = c.in-Err-Refused in
    let told : IsAnswer c.args.request (Refused (refusal_text stopped.refusal)) = subst (StopsAs (IsAnswer c.args.request)) stopped.field-0-is stopped.ensures.stops in
    let same = same-answer (Some c.args.request) (Refused (refusal_text stopped.refusal)) answer told given in
    let task = ap (λ (refusal : Refusal). at_once selfrun_name None (Refused (refusal_text refusal))) stopped.refusal-is ∙ ap (at_once selfrun_name None) same in
    Does-same _ _ _ _ _ _ task c.answer_at_once.ensures

pub returns-in-Err-Memory : goal.returns-in-Err-Memory
returns-in-Err-Memory g c answer given = c.give_up.ensures (at_once selfrun_name None answer) refl
