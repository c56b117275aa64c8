use Rattle.std.proofs.Common.{◌-◌, ◌++◌, ◌∷◌, [], ap, sym, ◌∙◌, arith, refl}
use Rattle.std.proofs.lemmas.Result.{IfOk-weaker}
use Rattle.vlog_forms.specs.declared.slot.Slot.TheVariants as slot
use Rattle.vlog_print.specs.Rest.{with_rest}
use Rattle.vlog_print.proofs.Steps.{atoms-none, atoms-some}
use Rattle.vlog_forms.specs.Layout.{more_slots}
use Rattle.vlog_print.proofs.slots.write_atoms.Goals as goal

pub returns-then-count-eq0-clause-text : goal.returns-then-count-eq0-clause-text
returns-then-count-eq0-clause-text c = λ more.
    atoms-none c.args.out.now.items c.args.count more c.args.values.now c.args.next c.if-count-eq0.true
    ∙ ap (λ text. with_rest (text ++ 125 ∷ []) more c.args.values.now c.args.next) (sym c.in_ok-push_text.ensures)
    ∙ ap (λ text. with_rest text more c.args.values.now c.args.next) (sym c.in_ok-push_text-2.ensures)

pub returns-clause-text : goal.returns-clause-text
returns-clause-text c =
    IfOk-weaker c.write_more.result _ _ (λ after rest more.
    atoms-some c.args.out.now.items c.args.count more c.args.values.now c.args.next (omega arith)
    ∙ ap (λ text. with_rest text (slot.Atom ∷ (more_slots (c.args.count - 1) ++ more)) c.args.values.now c.args.next) (sym c.in_ok-push_text.ensures)
    ∙ c.in_ok-next.ensures.text slot.Atom (more_slots (c.args.count - 1) ++ more) refl
    ∙ rest more) c.write_more.ensures.text
