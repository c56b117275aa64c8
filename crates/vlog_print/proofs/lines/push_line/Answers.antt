use Rattle.std.proofs.Common.{◌++◌, ◌∷◌, [], take, drop, flat_map, ap, ◌∙◌}
use Rattle.std.proofs.lemmas.Result.{on_ok_weaker}
use Rattle.vlog_forms.specs.Layout.{parts_of}
use Rattle.vlog_forms.specs.Printed.{written}
use Rattle.vlog_print.specs.Rest.{all_seen, with_rest}
use Rattle.vlog_print.proofs.Steps.{line-is}
use Rattle.vlog_print.proofs.lines.push_line.Goals as goal

pub returns : goal.returns
unfolding with_rest
returns c =
    let text = written (flat_map parts_of c.args.slots.now) (take c.args.next (all_seen c.args.values.now)) (drop c.args.next (all_seen c.args.values.now)) in
    on_ok_weaker c.push_text-2.result (λ pushed.
    pushed ∙ ap (λ all. all ++ 10 ∷ []) (c.in_ok-write_slots.ensures ∙ ap (λ front. front ++ text) c.in_ok-push_text.ensures)
    ∙ line-is c.args.out.now.items text) c.push_text-2.ensures
