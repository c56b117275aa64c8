use Rattle.vlog_forms.specs.Reading.{values_of}
use Rattle.vlog_form_parser.specs.Found.{all_found}
use Rattle.vlog_form_parser.proofs.Made.{write_narrow-made}
use Rattle.vlog_form_parser.proofs.items.write_narrow_of.Goals as goal

pub returns : goal.returns
returns c =
    write_narrow-made (values_of (all_found c.args.values.now)) c.edge_at.result c.in_ok-clock.clock c.in_ok-clock_enable.clock_enable c.in_ok-enable.enable c.in_ok-memory.memory c.in_ok-address.address c.word_at.result c.in_ok-shift.shift c.in_ok-bits.bits
    c.edge_at.ensures c.in_ok-clock.ensures c.in_ok-clock_enable.ensures c.in_ok-enable.ensures c.in_ok-memory.ensures c.in_ok-address.ensures c.word_at.ensures c.in_ok-shift.ensures c.in_ok-bits.ensures
