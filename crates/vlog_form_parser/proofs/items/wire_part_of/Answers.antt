use Rattle.vlog_forms.specs.Reading.{values_of}
use Rattle.vlog_form_parser.specs.Found.{all_found}
use Rattle.vlog_form_parser.proofs.Made.{wire_part-made}
use Rattle.vlog_form_parser.proofs.items.wire_part_of.Goals as goal

pub returns : goal.returns
returns c =
    wire_part-made (values_of (all_found c.args.values.now)) c.in_ok-name.name c.in_ok-source.source c.index_at.result
    c.in_ok-name.ensures c.in_ok-source.ensures c.index_at.ensures
