use Rattle.std.proofs.Common.{◌∷◌, ◌-◌, length, ap, ◌∙◌, arith}
use Rattle.vlog_tokens.specs.declared.fixed.Fixed.TheVariants as sign
use Rattle.vlog_tokens.specs.Tokens.{spots_at}
use Rattle.vlog_forms.specs.declared.slot.Slot.TheVariants as slot
use Rattle.vlog_forms.specs.Layout.{more_slots}
use Rattle.vlog_forms.specs.Reading.{read_slots}
use Rattle.vlog_form_parser.specs.Found.{all_found}
use Rattle.vlog_form_parser.proofs.Steps.{atom-then, atom-stops, comma-then, fixed-stuck, fixed-one, more-zero, more-suc, reads-along, stop-over}
use Rattle.vlog_form_parser.proofs.slots.+read_next_atom.Goals as goal

pub returns-in-Err-clause-reads : goal.returns-in-Err-clause-reads
returns-in-Err-clause-reads t c =
    atom-stops (length c.args.bytes.now) (more_slots c.args.count) (all_found c.args.values.now.items) (spots_at c.args.bytes.now c.args.from) c.in-Err.stop c.in-Err.ensures.reads

pub returns-then-count-eq0-clause-reads : goal.returns-then-count-eq0-clause-reads
returns-then-count-eq0-clause-reads t c =
    let end = length c.args.bytes.now in
    let found = all_found c.read_atom.new.values.items in
    reads-along _ _ c.args.bytes.now found c.stop_at.result
    (atom-then end (more_slots c.args.count) (all_found c.args.values.now.items) found (spots_at c.args.bytes.now c.args.from) _ c.in-Ok.ensures.reads
    ∙ ap (λ slots. read_slots end slots found (spots_at c.args.bytes.now c.in-Ok.end)) (more-zero c.args.count c.if-count-eq0.true)
    ∙ fixed-one end sign.CloseBrace found (spots_at c.args.bytes.now c.in-Ok.end))
    (stop-over _ c.args.bytes.now found c.expect_token.result c.stop_at.result c.expect_token.ensures.reads c.stop_at.ensures)

pub returns-in-Err-expect_token-clause-reads : goal.returns-in-Err-expect_token-clause-reads
returns-in-Err-expect_token-clause-reads t c =
    let end = length c.args.bytes.now in
    let found = all_found c.read_atom.new.values.items in
    atom-then end (more_slots c.args.count) (all_found c.args.values.now.items) found (spots_at c.args.bytes.now c.args.from) _ c.in-Ok.ensures.reads
    ∙ ap (λ slots. read_slots end slots found (spots_at c.args.bytes.now c.in-Ok.end)) (more-suc c.args.count (omega arith))
    ∙ fixed-stuck end sign.Comma (slot.Space ∷ slot.Atom ∷ more_slots (c.args.count - 1)) found (spots_at c.args.bytes.now c.in-Ok.end) _ c.in-Err-expect_token.ensures.reads

pub returns-in-Ok-expect_token-clause-reads : goal.returns-in-Ok-expect_token-clause-reads
returns-in-Ok-expect_token-clause-reads t c =
    let end = length c.args.bytes.now in
    let found = all_found c.read_atom.new.values.items in
    reads-along _ _ c.args.bytes.now (all_found c.read_next_atom.new.values.items) c.read_next_atom.result
    (atom-then end (more_slots c.args.count) (all_found c.args.values.now.items) found (spots_at c.args.bytes.now c.args.from) _ c.in-Ok.ensures.reads
    ∙ ap (λ slots. read_slots end slots found (spots_at c.args.bytes.now c.in-Ok.end)) (more-suc c.args.count (omega arith))
    ∙ comma-then end (slot.Atom ∷ more_slots (c.args.count - 1)) found (spots_at c.args.bytes.now c.in-Ok.end) _ c.in-Ok-expect_token.ensures.reads)
    c.read_next_atom.ensures.reads
