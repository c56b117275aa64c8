use Rattle.std.proofs.Common.{◌≡◌, ◌++◌, take, ap, sym, ◌∙◌}
use Rattle.vlog_forms.specs.Layout.{parts_of}
use Rattle.vlog_forms.specs.Printed.{tokens_text}
use Rattle.vlog_forms.specs.Values.{tokens_at}
use Rattle.vlog_print.specs.Rest.{all_seen, with_rest}
use Rattle.vlog_print.proofs.Steps.{rest-space, rest-fixed, rest-literal, rest-again}
use Rattle.vlog_print.proofs.slots.write_slot.Goals as goal

pub returns-in_ok-push_text-in-Space-clause-text : goal.returns-in_ok-push_text-in-Space-clause-text
returns-in_ok-push_text-in-Space-clause-text c = λ more.
    ap (λ one. with_rest c.args.out.now.items (parts_of one ++ more) c.args.values.now c.args.next) c.in-Space.is
    ∙ rest-space c.args.out.now.items more c.args.values.now c.args.next
    ∙ ap (λ text. with_rest text more c.args.values.now c.args.next) (sym c.in_ok-push_text-in-Space.ensures)

pub returns-in_ok-push_text-in-Fixed-clause-text : goal.returns-in_ok-push_text-in-Fixed-clause-text
returns-in_ok-push_text-in-Fixed-clause-text c = λ more.
    ap (λ one. with_rest c.args.out.now.items (parts_of one ++ more) c.args.values.now c.args.next) c.in-Fixed.is
    ∙ rest-fixed c.args.out.now.items c.in-Fixed.fixed more c.args.values.now c.args.next
    ∙ ap (λ text. with_rest (c.args.out.now.items ++ text) more c.args.values.now c.args.next) (sym c.text.ensures)
    ∙ ap (λ text. with_rest text more c.args.values.now c.args.next) (sym c.in_ok-push_text-in-Fixed.ensures)

pub returns-in_ok-push_number-in-Literal-clause-text : goal.returns-in_ok-push_number-in-Literal-clause-text
returns-in_ok-push_number-in-Literal-clause-text c = λ more.
    ap (λ one. with_rest c.args.out.now.items (parts_of one ++ more) c.args.values.now c.args.next) c.in-Literal.is
    ∙ rest-literal c.args.out.now.items c.in-Literal.number more c.args.values.now c.args.next
    ∙ ap (λ text. with_rest text more c.args.values.now c.args.next) (sym c.in_ok-push_number-in-Literal.ensures)

pub returns-in_ok-write_again-in-Again-clause-text : goal.returns-in_ok-write_again-in-Again-clause-text
returns-in_ok-write_again-in-Again-clause-text c = λ more.
    ap (λ one. with_rest c.args.out.now.items (parts_of one ++ more) c.args.values.now c.args.next) c.in-Again.is
    ∙ rest-again c.args.out.now.items c.in-Again.place more c.args.values.now c.args.next
    ∙ ap (λ place. with_rest (c.args.out.now.items ++ tokens_text (tokens_at (take c.args.next (all_seen c.args.values.now)) place)) more c.args.values.now c.args.next) (let same : c.in-Again.place ≡ c.from.result = cc in same)
    ∙ ap (λ text. with_rest text more c.args.values.now c.args.next) (sym c.in_ok-write_again-in-Again.ensures)
