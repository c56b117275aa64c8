use Rattle.std.proofs.Common.{◌≡◌, ◌∙◌, true, ap, refl, subst, sym}
use Rattle.std.specs.Prelude.{None, Option, IfSome, map, string_bytes}
use Rattle.plane_map.specs.Devices.{has_database}
use Rattle.tool_run.specs.Tasks.{at_once}
use Rattle.tool_run.proofs.Same.{Does-same}
use Rattle.selfrun_tool.specs.declared.request.Request.{Request}
use Rattle.selfrun_tool.specs.Selfrun.{IsAnswerFor, selfrun_name}
use Rattle.selfrun_tool.proofs.Words.{request-database}
use Rattle.selfrun_tool.proofs.running.do_args.Goals as goal

pub tell-requires : goal.tell-requires
tell-requires g c =
    let asked = sym c.in-Ok-Some.ensures ∙ c.in-Ok-Some.field-0-is in
    subst (λ (request : Option Request). IfSome request (λ request. has_database request.device ≡ true)) asked (request-database (map string_bytes c.args.args.now))

pub returns-in-Ok-Some : goal.returns-in-Ok-Some
returns-in-Ok-Some g c answer given =
    c.tell.ensures answer (subst (λ (request : Option Request). IsAnswerFor request answer) (sym c.in-Ok-Some.ensures ∙ c.in-Ok-Some.field-0-is) given)

pub returns-in-Ok-None : goal.returns-in-Ok-None
returns-in-Ok-None g c answer given =
    let same = subst (λ (request : Option Request). IsAnswerFor request answer) (sym c.in-Ok-None.ensures ∙ c.in-Ok-None.field-0-is) given in
    Does-same _ _ _ _ _ _ (ap (at_once selfrun_name None) (sym same)) c.answer_at_once.ensures

pub returns-in-Err : goal.returns-in-Err
returns-in-Err g c answer given = c.give_up.ensures (at_once selfrun_name None answer) refl
