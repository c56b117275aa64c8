use Rattle.std.proofs.Common.{ap, sym, subst, ◌∙◌}
use Rattle.std.proofs.lemmas.Result.{on_ok_weaker}
use Rattle.vlog_module.specs.WellFormed.{Scope}
use Rattle.vlog_forms.specs.Reading.{values_of}
use Rattle.vlog_form_parser.specs.Found.{all_found}
use Rattle.vlog_parser.specs.Scopes.{Holds, entered}
use Rattle.vlog_parser.proofs.Entering.{entered_append}
use Rattle.vlog_parser.proofs.ValuesAfter.{uses-first}
use Rattle.vlog_parser.proofs.names.Names.+enter_from.Goals as goal

pub returns-in-Ok : goal.returns-in-Ok
returns-in-Ok t c =
    let first = uses-first c.args.more.now _ (values_of (all_found c.args.values.now)) c.args.place c.in-len1-up.len_at_least in
    on_ok_weaker c.enter_from.result
    (λ keeps scope holds. subst (λ (s : Scope). Holds c.enter_from.new.self s) (entered_append scope c.args.wire _ _ ∙ ap (entered scope c.args.wire) (sym first)) (keeps _ (c.in-Ok.ensures scope holds)))
    c.enter_from.ensures
