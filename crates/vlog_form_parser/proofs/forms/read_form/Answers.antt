use Rattle.std.proofs.Common.{length, flat_map, ap, sym}
use Rattle.vlog_tokens.specs.Tokens.{spots_at}
use Rattle.vlog_forms.specs.Layout.{parts_of, slots_of}
use Rattle.vlog_forms.specs.Reading.{read_slots}
use Rattle.vlog_form_parser.specs.Found.{all_found}
use Rattle.vlog_form_parser.proofs.Steps.{reads-along}
use Rattle.vlog_form_parser.proofs.forms.read_form.Goals as goal

pub returns-in-None-clause-reads : goal.returns-in-None-clause-reads
unfolding slots_of
returns-in-None-clause-reads c =
    reads-along _ _ c.args.bytes.now (all_found c.read_after.new.values.items) c.read_after.result
    (ap (λ slots. read_slots (length c.args.bytes.now) (flat_map parts_of slots) (all_found c.args.given.now) (spots_at c.args.bytes.now c.args.from)) (sym c.slots.ensures))
    c.read_after.ensures.reads

pub returns-in-Some-clause-reads : goal.returns-in-Some-clause-reads
unfolding slots_of
returns-in-Some-clause-reads c =
    reads-along _ _ c.args.bytes.now (all_found c.read_begun.new.values.items) c.read_begun.result
    (ap (λ slots. read_slots (length c.args.bytes.now) (flat_map parts_of slots) (all_found c.args.given.now) (spots_at c.args.bytes.now c.args.from)) (sym c.slots-in-Some.ensures))
    c.read_begun.ensures.reads
