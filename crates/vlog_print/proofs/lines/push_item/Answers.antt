use Rattle.std.proofs.Common.{◌++◌, [], flat_map, ap, ◌∙◌}
use Rattle.std.proofs.lemmas.Result.{on_ok_weaker}
use Rattle.vlog_forms.specs.Table.{table}
use Rattle.vlog_forms.specs.Layout.{parts_of, slots_of}
use Rattle.vlog_forms.specs.Items.{item_form}
use Rattle.vlog_forms.specs.Printed.{written, line_of}
use Rattle.vlog_print.specs.Rest.{all_seen}
use Rattle.vlog_print.proofs.lines.push_item.Goals as goal

pub returns : goal.returns
unfolding slots_of
returns c =
    let old = c.args.out.now.items in
    on_ok_weaker c.push_line.result (λ pushed.
    pushed
    ∙ ap (λ slots. old ++ line_of (written (flat_map parts_of slots) [] (all_seen c.deref.result.now))) c.slots.ensures
    ∙ ap (λ form. old ++ line_of (written (flat_map parts_of (table form)) [] (all_seen c.deref.result.now))) c.item_form.ensures
    ∙ ap (λ values. old ++ line_of (written (flat_map parts_of (table (item_form c.args.item.now))) [] (all_seen values))) c.deref.ensures.value
    ∙ ap (λ values. old ++ line_of (written (flat_map parts_of (table (item_form c.args.item.now))) [] values)) c.in_ok-values.ensures) c.push_line.ensures
