use Rattle.std.proofs.Common.{◌≡◌, [], flat_map, ap, sym, ◌∙◌, arith}
use Rattle.std.proofs.lemmas.List.{nil_from_length}
use Rattle.vlog_forms.specs.Layout.{parts_of}
use Rattle.vlog_print.specs.Rest.{with_rest}
use Rattle.vlog_print.proofs.Steps.{rest-none}
use Rattle.vlog_print.proofs.slots.+write_slots.Goals as goal

pub returns-in-empty : goal.returns-in-empty
returns-in-empty t c =
    let none : c.args.slots.now ≡ [] = nil_from_length c.args.slots.now (omega (arith, c.in-empty.len_below)) in
    sym (ap (λ slots. with_rest c.args.out.now.items (flat_map parts_of slots) c.args.values.now c.args.next) none ∙ rest-none c.args.out.now.items c.args.values.now c.args.next)
