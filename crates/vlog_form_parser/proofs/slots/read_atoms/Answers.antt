use Rattle.std.proofs.Common.{length, ap, ◌∙◌, arith}
use Rattle.vlog_tokens.specs.declared.fixed.Fixed.TheVariants as sign
use Rattle.vlog_tokens.specs.Tokens.{spots_at}
use Rattle.vlog_forms.specs.Layout.{atom_slots}
use Rattle.vlog_forms.specs.Reading.{read_slots}
use Rattle.vlog_form_parser.specs.Found.{all_found}
use Rattle.vlog_form_parser.proofs.Steps.{fixed-then, fixed-stuck, fixed-one, atoms-zero, atoms-suc, reads-along, stop-over}
use Rattle.vlog_form_parser.proofs.slots.read_atoms.Goals as goal

pub returns-in-Err-clause-reads : goal.returns-in-Err-clause-reads
returns-in-Err-clause-reads c =
    fixed-stuck (length c.args.bytes.now) sign.OpenBrace (atom_slots c.args.count) (all_found c.args.values.now.items) (spots_at c.args.bytes.now c.args.from) _ c.in-Err.ensures.reads

pub returns-then-count-eq0-clause-reads : goal.returns-then-count-eq0-clause-reads
returns-then-count-eq0-clause-reads c =
    let end = length c.args.bytes.now in
    let found = all_found c.args.values.now.items in
    reads-along _ _ c.args.bytes.now found c.stop_at.result
    (fixed-then end sign.OpenBrace (atom_slots c.args.count) found (spots_at c.args.bytes.now c.args.from) _ c.in-Ok.ensures.reads
    ∙ ap (λ slots. read_slots end slots found (spots_at c.args.bytes.now c.in-Ok.end)) (atoms-zero c.args.count c.if-count-eq0.true)
    ∙ fixed-one end sign.CloseBrace found (spots_at c.args.bytes.now c.in-Ok.end))
    (stop-over _ c.args.bytes.now found c.expect_token-then-count-eq0.result c.stop_at.result c.expect_token-then-count-eq0.ensures.reads c.stop_at.ensures)

pub returns-else-count-eq0-clause-reads : goal.returns-else-count-eq0-clause-reads
returns-else-count-eq0-clause-reads c =
    let end = length c.args.bytes.now in
    let found = all_found c.args.values.now.items in
    reads-along _ _ c.args.bytes.now (all_found c.read_next_atom.new.values.items) c.read_next_atom.result
    (fixed-then end sign.OpenBrace (atom_slots c.args.count) found (spots_at c.args.bytes.now c.args.from) _ c.in-Ok.ensures.reads
    ∙ ap (λ slots. read_slots end slots found (spots_at c.args.bytes.now c.in-Ok.end)) (atoms-suc c.args.count (omega arith)))
    c.read_next_atom.ensures.reads
