use Rattle.vlog_forms.specs.Reading.{values_of}
use Rattle.vlog_form_parser.specs.Found.{all_found}
use Rattle.vlog_form_parser.proofs.Made.{read-made}
use Rattle.vlog_form_parser.proofs.items.read_of.Goals as goal

pub returns : goal.returns
returns c =
    read-made (values_of (all_found c.args.values.now)) c.edge_at.result c.in_ok-clock.clock c.in_ok-clock_enable.clock_enable c.in_ok-enable.enable c.in_ok-target.target c.in_ok-memory.memory c.in_ok-address.address
    c.edge_at.ensures c.in_ok-clock.ensures c.in_ok-clock_enable.ensures c.in_ok-enable.ensures c.in_ok-target.ensures c.in_ok-memory.ensures c.in_ok-address.ensures
