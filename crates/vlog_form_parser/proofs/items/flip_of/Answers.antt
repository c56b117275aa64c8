use Rattle.vlog_forms.specs.Reading.{values_of}
use Rattle.vlog_form_parser.specs.Found.{all_found}
use Rattle.vlog_form_parser.proofs.Made.{flip-made}
use Rattle.vlog_form_parser.proofs.items.flip_of.Goals as goal

pub returns : goal.returns
returns c =
    flip-made (values_of (all_found c.args.values.now)) c.edge_at.result c.in_ok-clock.clock c.in_ok-enable.enable c.in_ok-reset.reset c.bit_at.result c.in_ok-target.target c.in_ok-lut.lut
    c.edge_at.ensures c.in_ok-clock.ensures c.in_ok-enable.ensures c.in_ok-reset.ensures c.bit_at.ensures c.in_ok-target.ensures c.in_ok-lut.ensures
