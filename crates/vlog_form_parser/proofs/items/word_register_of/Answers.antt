use Rattle.vlog_forms.specs.Reading.{values_of}
use Rattle.vlog_form_parser.specs.Found.{all_found}
use Rattle.vlog_form_parser.proofs.Made.{word-made}
use Rattle.vlog_form_parser.proofs.items.word_register_of.Goals as goal

pub returns : goal.returns
returns c =
    word-made (values_of (all_found c.args.values.now)) c.in_ok-name.name c.word_at.result
    c.in_ok-name.ensures c.word_at.ensures
