use Rattle.std.proofs.Common.{length, ap, ◌∙◌, arith}
use Rattle.vlog_tokens.specs.declared.fixed.Fixed.TheVariants as sign
use Rattle.vlog_tokens.specs.Tokens.{spots_at}
use Rattle.vlog_forms.specs.Layout.{first_again_slots}
use Rattle.vlog_forms.specs.Reading.{read_slots}
use Rattle.vlog_form_parser.specs.Found.{all_found}
use Rattle.vlog_form_parser.proofs.Steps.{fixed-then, fixed-stuck, fixed-one, first-zero, first-suc, over-along, tokens-over}
use Rattle.vlog_form_parser.proofs.slots.read_atoms_again.Goals as goal

pub returns-in-Err-clause-reads : goal.returns-in-Err-clause-reads
returns-in-Err-clause-reads c =
    fixed-stuck (length c.args.bytes.now) sign.OpenBrace (first_again_slots c.args.first c.args.count) (all_found c.args.values.now) (spots_at c.args.bytes.now c.args.from) _ c.in-Err.ensures.reads

pub returns-then-count-eq0-clause-reads : goal.returns-then-count-eq0-clause-reads
returns-then-count-eq0-clause-reads c =
    let end = length c.args.bytes.now in
    let found = all_found c.args.values.now in
    over-along _ _ c.args.bytes.now found c.expect_token-then-count-eq0.result
    (fixed-then end sign.OpenBrace (first_again_slots c.args.first c.args.count) found (spots_at c.args.bytes.now c.args.from) _ c.in-Ok.ensures.reads
    ∙ ap (λ slots. read_slots end slots found (spots_at c.args.bytes.now c.in-Ok.end)) (first-zero c.args.first c.args.count c.if-count-eq0.true)
    ∙ fixed-one end sign.CloseBrace found (spots_at c.args.bytes.now c.in-Ok.end))
    (tokens-over _ c.args.bytes.now found c.expect_token-then-count-eq0.result c.expect_token-then-count-eq0.ensures.reads)

pub returns-else-count-eq0-clause-reads : goal.returns-else-count-eq0-clause-reads
returns-else-count-eq0-clause-reads c =
    let end = length c.args.bytes.now in
    let found = all_found c.args.values.now in
    over-along _ _ c.args.bytes.now found c.read_next_again.result
    (fixed-then end sign.OpenBrace (first_again_slots c.args.first c.args.count) found (spots_at c.args.bytes.now c.args.from) _ c.in-Ok.ensures.reads
    ∙ ap (λ slots. read_slots end slots found (spots_at c.args.bytes.now c.in-Ok.end)) (first-suc c.args.first c.args.count (omega arith)))
    c.read_next_again.ensures.reads
