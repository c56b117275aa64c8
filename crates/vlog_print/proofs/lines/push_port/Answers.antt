use Rattle.std.proofs.Common.{◌++◌, ◌∷◌, [], flat_map, ap, ◌∙◌}
use Rattle.std.proofs.lemmas.Result.{on_ok_weaker}
use Rattle.vlog_module.specs.declared.sort.Sort.TheVariants as sort
use Rattle.vlog_forms.specs.declared.slot.Role.TheVariants as role
use Rattle.vlog_forms.specs.Table.{table}
use Rattle.vlog_forms.specs.Values.Value.{Name}
use Rattle.vlog_forms.specs.Layout.{parts_of, slots_of}
use Rattle.vlog_forms.specs.Items.{port_form}
use Rattle.vlog_forms.specs.Printed.{written, line_of}
use Rattle.vlog_print.proofs.lines.push_port.Goals as goal

pub returns : goal.returns
unfolding slots_of
returns c =
    let old = c.args.out.now.items in
    on_ok_weaker c.push_line.result (λ pushed.
    pushed
    ∙ ap (λ slots. old ++ line_of (written (flat_map parts_of slots) (Name (role.Declares sort.Input) c.bytes.result.now ∷ []) [])) c.slots.ensures
    ∙ ap (λ form. old ++ line_of (written (flat_map parts_of (table form)) (Name (role.Declares sort.Input) c.bytes.result.now ∷ []) [])) c.port_form.ensures
    ∙ ap (λ name. old ++ line_of (written (flat_map parts_of (table (port_form c.args.port.now.output))) (Name (role.Declares sort.Input) name ∷ []) [])) c.bytes.ensures.bytes) c.push_line.ensures
