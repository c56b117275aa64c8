use Rattle.vlog_forms.specs.Reading.{values_of}
use Rattle.vlog_form_parser.specs.Found.{all_found}
use Rattle.vlog_form_parser.proofs.Made.{lut-made}
use Rattle.vlog_form_parser.proofs.items.lut_at.Goals as goal

pub returns : goal.returns
returns c =
    lut-made (values_of (all_found c.args.values.now)) c.args.place c.word_at.result c.in_ok-ins.ins c.word_at.ensures c.in_ok-ins.ensures
