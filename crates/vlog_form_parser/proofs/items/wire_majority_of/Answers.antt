use Rattle.vlog_forms.specs.Reading.{values_of}
use Rattle.vlog_form_parser.specs.Found.{all_found}
use Rattle.vlog_form_parser.proofs.Made.{wire_majority-made}
use Rattle.vlog_form_parser.proofs.items.wire_majority_of.Goals as goal

pub returns : goal.returns
returns c =
    wire_majority-made (values_of (all_found c.args.values.now)) c.in_ok-name.name c.in_ok-a.a c.in_ok-b.b c.in_ok-c.c
    c.in_ok-name.ensures c.in_ok-a.ensures c.in_ok-b.ensures c.in_ok-c.ensures
