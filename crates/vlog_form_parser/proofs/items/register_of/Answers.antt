use Rattle.vlog_forms.specs.Reading.{values_of}
use Rattle.vlog_form_parser.specs.Found.{all_found}
use Rattle.vlog_form_parser.proofs.Made.{register-made}
use Rattle.vlog_form_parser.proofs.items.register_of.Goals as goal

pub returns : goal.returns
returns c =
    register-made (values_of (all_found c.args.values.now)) c.in_ok-name.name c.bit_at.result
    c.in_ok-name.ensures c.bit_at.ensures
