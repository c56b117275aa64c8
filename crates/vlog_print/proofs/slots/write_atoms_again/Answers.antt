use Rattle.std.proofs.Common.{◌+◌, ◌-◌, ◌++◌, ◌∷◌, [], take, ap, sym, ◌∙◌, arith}
use Rattle.std.proofs.lemmas.Result.{on_ok_weaker}
use Rattle.vlog_forms.specs.Layout.{again_slots}
use Rattle.vlog_forms.specs.Printed.{tokens_text}
use Rattle.vlog_forms.specs.Values.{tokens_at}
use Rattle.vlog_print.specs.Rest.{all_seen, with_rest}
use Rattle.vlog_print.proofs.Steps.{first_again-none, first_again-some}
use Rattle.vlog_print.proofs.slots.write_atoms_again.Goals as goal

pub returns-then-count-eq0 : goal.returns-then-count-eq0
returns-then-count-eq0 c = λ more.
    on_ok_weaker c.push_text-then-count-eq0.result (λ pushed.
    first_again-none c.args.out.now.items c.args.first c.args.count more c.args.values.now c.args.next c.if-count-eq0.true
    ∙ ap (λ text. with_rest (text ++ 125 ∷ []) more c.args.values.now c.args.next) (sym c.in_ok-push_text.ensures)
    ∙ ap (λ text. with_rest text more c.args.values.now c.args.next) (sym pushed)) c.push_text-then-count-eq0.ensures

pub returns : goal.returns
returns c = λ more.
    on_ok_weaker c.write_more_again.result (λ rest.
    first_again-some c.args.out.now.items c.args.first c.args.count more c.args.values.now c.args.next (omega arith)
    ∙ ap (λ text. with_rest (text ++ tokens_text (tokens_at (take c.args.next (all_seen c.args.values.now)) c.args.first)) (again_slots (c.args.first + 1) (c.args.count - 1) ++ more) c.args.values.now c.args.next) (sym c.in_ok-push_text.ensures)
    ∙ ap (λ text. with_rest text (again_slots (c.args.first + 1) (c.args.count - 1) ++ more) c.args.values.now c.args.next) (sym c.in_ok-write_again.ensures)
    ∙ rest) (c.write_more_again.ensures more)
