use Rattle.std.proofs.lemmas.Result.{IfOk-weaker}
use Rattle.vlog_forms.specs.Reading.{values_of}
use Rattle.vlog_form_parser.specs.Found.{all_found}
use Rattle.vlog_form_parser.specs.Readings.{whole_of}
use Rattle.vlog_form_parser.proofs.Named.{named-sound}
use Rattle.vlog_parser.proofs.ItemSteps.{form-stands, step-after}
use Rattle.vlog_parser.proofs.items.read_item.Goals as goal

pub take_whole-requires-clause-named : goal.take_whole-requires-clause-named
take_whole-requires-clause-named c =
    let stands = form-stands c.args.bytes.now c.args.from c.all_forms.result.now (whole_of c.in-Ok.whole c.args.bytes.now (all_found c.read_forms.new.values.items)) c.all_forms.ensures c.in-Ok.ensures.reads in
    rw c.deref.ensures.value (named-sound (values_of (all_found c.read_forms.new.values.items)) stands.values)

pub take_whole-requires-clause-uses : goal.take_whole-requires-clause-uses
take_whole-requires-clause-uses c =
    let stands = form-stands c.args.bytes.now c.args.from c.all_forms.result.now (whole_of c.in-Ok.whole c.args.bytes.now (all_found c.read_forms.new.values.items)) c.all_forms.ensures c.in-Ok.ensures.reads in
    rw c.deref.ensures.value stands.uses

pub returns-in-Ok-clause-shorter : goal.returns-in-Ok-clause-shorter
returns-in-Ok-clause-shorter c =
    let stands = form-stands c.args.bytes.now c.args.from c.all_forms.result.now (whole_of c.in-Ok.whole c.args.bytes.now (all_found c.read_forms.new.values.items)) c.all_forms.ensures c.in-Ok.ensures.reads in
    IfOk-weaker c.take_whole.result _ _ (λ step at. step-after c.args.bytes.now c.args.from c.in-Ok.whole.end step at c.in-Ok.ensures.within stands.shorter) c.take_whole.ensures.end
