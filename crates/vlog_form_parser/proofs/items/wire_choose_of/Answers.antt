use Rattle.vlog_forms.specs.Reading.{values_of}
use Rattle.vlog_form_parser.specs.Found.{all_found}
use Rattle.vlog_form_parser.proofs.Made.{wire_choose-made}
use Rattle.vlog_form_parser.proofs.items.wire_choose_of.Goals as goal

pub returns : goal.returns
returns c =
    wire_choose-made (values_of (all_found c.args.values.now)) c.in_ok-name.name c.in_ok-reset.reset c.bit_at.result c.in_ok-target.target
    c.in_ok-name.ensures c.in_ok-reset.ensures c.bit_at.ensures c.in_ok-target.ensures
