use Rattle.std.proofs.Common.{◌-◌, ◌++◌, ◌∷◌, ap, sym, ◌∙◌, arith, refl}
use Rattle.std.proofs.lemmas.Result.{IfOk-weaker}
use Rattle.vlog_forms.specs.declared.slot.Slot.TheVariants as slot
use Rattle.vlog_print.specs.Rest.{with_rest}
use Rattle.vlog_print.proofs.Steps.{more-none, more-some}
use Rattle.vlog_forms.specs.Layout.{more_slots}
use Rattle.vlog_print.proofs.slots.+write_more.Goals as goal

pub returns-then-count-eq0-clause-text : goal.returns-then-count-eq0-clause-text
returns-then-count-eq0-clause-text t c = λ more.
    more-none c.args.out.now.items c.args.count more c.args.values.now c.args.next c.if-count-eq0.true
    ∙ ap (λ text. with_rest text more c.args.values.now c.args.next) (sym c.in_ok-push_text.ensures)

pub returns-clause-text : goal.returns-clause-text
returns-clause-text t c =
    IfOk-weaker c.write_more.result _ _ (λ after rest more.
    more-some c.args.out.now.items c.args.count more c.args.values.now c.args.next (omega arith)
    ∙ ap (λ text. with_rest text (slot.Atom ∷ (more_slots (c.args.count - 1) ++ more)) c.args.values.now c.args.next) (sym c.in_ok-push_text-2.ensures)
    ∙ c.in_ok-next.ensures.text slot.Atom (more_slots (c.args.count - 1) ++ more) refl
    ∙ rest more) c.write_more.ensures.text
