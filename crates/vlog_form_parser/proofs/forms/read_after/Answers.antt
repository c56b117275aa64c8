use Rattle.std.proofs.Common.{length, flat_map, ap, sym}
use Rattle.vlog_tokens.specs.Tokens.{spots_at}
use Rattle.vlog_forms.specs.Layout.{parts_of}
use Rattle.vlog_forms.specs.Reading.{read_slots}
use Rattle.vlog_form_parser.specs.Found.{all_found}
use Rattle.vlog_form_parser.proofs.Steps.{reads-along}
use Rattle.vlog_form_parser.proofs.forms.read_after.Goals as goal

pub returns-in-Ok-clause-reads : goal.returns-in-Ok-clause-reads
returns-in-Ok-clause-reads c =
    reads-along _ _ c.args.bytes.now (all_found c.read_slots.new.values.items) c.read_slots.result
    (ap (λ items. read_slots (length c.args.bytes.now) (flat_map parts_of c.args.slots.now) (all_found items) (spots_at c.args.bytes.now c.args.from)) (sym c.in-Ok.ensures))
    c.read_slots.ensures.reads
