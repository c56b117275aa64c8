use Rattle.std.proofs.Common.{◌≡◌, ◌≤◌, ◌++◌, take, length, ap, sym, ◌∙◌, subst, arith}
use Rattle.std.specs.Prelude.{OnOk}
use Rattle.std.proofs.lemmas.List.{append-nil, length-take}
use Rattle.vlog_forms.specs.Printed.{tokens_text}
use Rattle.vlog_print.specs.Rest.{all_seen}
use Rattle.vlog_print.proofs.Steps.{tokens_at-place, tokens_at-past}
use Rattle.vlog_print.proofs.slots.write_again.Goals as goal

pub returns-then-place-next : goal.returns-then-place-next
returns-then-place-next c =
    subst (λ t. OnOk c.write_value.result (c.write_value.new.out.items ≡ c.args.out.now.items ++ tokens_text t))
    (sym (tokens_at-place c.args.values.now c.args.next c.args.place _ c.if-place-next.true c.requires)) c.write_value.ensures

pub returns-else-place-next : goal.returns-else-place-next
returns-else-place-next c =
    let before = take c.args.next (all_seen c.args.values.now) in
    let past : length before ≤ c.args.place = omega (arith, length-take c.args.next (all_seen c.args.values.now)) in
    sym (ap (λ text. c.args.out.now.items ++ text) (tokens_at-past before c.args.place past) ∙ append-nil c.args.out.now.items)
