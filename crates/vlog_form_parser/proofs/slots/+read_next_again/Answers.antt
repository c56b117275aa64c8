use Rattle.std.proofs.Common.{◌≡◌, ◌∷◌, ◌+◌, ◌-◌, suc, length, ap, ◌∙◌, arith}
use Rattle.vlog_tokens.specs.declared.fixed.Fixed.TheVariants as sign
use Rattle.vlog_tokens.specs.Tokens.{spots_at}
use Rattle.vlog_forms.specs.declared.slot.Slot.TheVariants as slot
use Rattle.vlog_forms.specs.Layout.{again_slots}
use Rattle.vlog_forms.specs.Reading.{read_slots}
use Rattle.vlog_form_parser.specs.Found.{all_found}
use Rattle.vlog_form_parser.proofs.Steps.{again-then, again-stuck, comma-then, fixed-stuck, fixed-one, again-zero, again-suc, over-along, tokens-over}
use Rattle.vlog_form_parser.proofs.slots.+read_next_again.Goals as goal

pub returns-in-Err-clause-reads : goal.returns-in-Err-clause-reads
returns-in-Err-clause-reads t c =
    again-stuck (length c.args.bytes.now) c.args.first (again_slots (suc c.args.first) c.args.count) (all_found c.args.values.now) (spots_at c.args.bytes.now c.args.from) _ c.in-Err.ensures.reads

pub returns-then-count-eq0-clause-reads : goal.returns-then-count-eq0-clause-reads
returns-then-count-eq0-clause-reads t c =
    let end = length c.args.bytes.now in
    let found = all_found c.args.values.now in
    over-along _ _ c.args.bytes.now found c.expect_token.result
    (again-then end c.args.first (again_slots (suc c.args.first) c.args.count) found (spots_at c.args.bytes.now c.args.from) _ c.in-Ok.ensures.reads
    ∙ ap (λ slots. read_slots end slots found (spots_at c.args.bytes.now c.in-Ok.end)) (again-zero (suc c.args.first) c.args.count c.if-count-eq0.true)
    ∙ fixed-one end sign.CloseBrace found (spots_at c.args.bytes.now c.in-Ok.end))
    (tokens-over _ c.args.bytes.now found c.expect_token.result c.expect_token.ensures.reads)

pub returns-in-Err-expect_token-clause-reads : goal.returns-in-Err-expect_token-clause-reads
returns-in-Err-expect_token-clause-reads t c =
    let end = length c.args.bytes.now in
    let found = all_found c.args.values.now in
    again-then end c.args.first (again_slots (suc c.args.first) c.args.count) found (spots_at c.args.bytes.now c.args.from) _ c.in-Ok.ensures.reads
    ∙ ap (λ slots. read_slots end slots found (spots_at c.args.bytes.now c.in-Ok.end)) (again-suc (suc c.args.first) c.args.count (omega arith))
    ∙ fixed-stuck end sign.Comma (slot.Space ∷ slot.Again (suc c.args.first) ∷ again_slots (suc (suc c.args.first)) (c.args.count - 1)) found (spots_at c.args.bytes.now c.in-Ok.end) _ c.in-Err-expect_token.ensures.reads

pub returns-in-Ok-expect_token-clause-reads : goal.returns-in-Ok-expect_token-clause-reads
returns-in-Ok-expect_token-clause-reads t c =
    let end = length c.args.bytes.now in
    let found = all_found c.args.values.now in
    let next : suc c.args.first ≡ c.args.first + 1 = omega arith in
    over-along _ _ c.args.bytes.now found c.read_next_again.result
    (again-then end c.args.first (again_slots (suc c.args.first) c.args.count) found (spots_at c.args.bytes.now c.args.from) _ c.in-Ok.ensures.reads
    ∙ ap (λ slots. read_slots end slots found (spots_at c.args.bytes.now c.in-Ok.end)) (again-suc (suc c.args.first) c.args.count (omega arith))
    ∙ comma-then end (slot.Again (suc c.args.first) ∷ again_slots (suc (suc c.args.first)) (c.args.count - 1)) found (spots_at c.args.bytes.now c.in-Ok.end) _ c.in-Ok-expect_token.ensures.reads
    ∙ ap (λ first. read_slots end (slot.Again first ∷ again_slots (suc first) (c.args.count - 1)) found (spots_at c.args.bytes.now c.in-Ok-expect_token.end)) next)
    c.read_next_again.ensures.reads
