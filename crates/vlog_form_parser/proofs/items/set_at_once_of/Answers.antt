use Rattle.vlog_forms.specs.Reading.{values_of}
use Rattle.vlog_form_parser.specs.Found.{all_found}
use Rattle.vlog_form_parser.proofs.Made.{set_at_once-made}
use Rattle.vlog_form_parser.proofs.items.set_at_once_of.Goals as goal

pub returns : goal.returns
returns c =
    set_at_once-made (values_of (all_found c.args.values.now)) c.in_ok-reset.reset c.bit_at.result c.in_ok-target.target
    c.in_ok-reset.ensures c.bit_at.ensures c.in_ok-target.ensures
