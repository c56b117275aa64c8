use Rattle.vlog_forms.specs.Reading.{values_of}
use Rattle.vlog_form_parser.specs.Found.{all_found}
use Rattle.vlog_form_parser.proofs.Made.{assign-made}
use Rattle.vlog_form_parser.proofs.items.assign_of.Goals as goal

pub returns : goal.returns
returns c =
    assign-made (values_of (all_found c.args.values.now)) c.in_ok-name.name c.in_ok-value.value
    c.in_ok-name.ensures c.in_ok-value.ensures
