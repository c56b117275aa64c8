use Rattle.vlog_forms.specs.Reading.{values_of}
use Rattle.vlog_form_parser.specs.Found.{all_found}
use Rattle.vlog_form_parser.proofs.Made.{start-made}
use Rattle.vlog_form_parser.proofs.items.start_of.Goals as goal

pub returns : goal.returns
returns c =
    start-made (values_of (all_found c.args.values.now)) c.in_ok-memory.memory c.index_at.result c.word_at.result c.in_ok-memory.ensures c.index_at.ensures c.word_at.ensures
