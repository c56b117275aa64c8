use Rattle.std.proofs.Common.{◌≡◌, ◌∷◌, [], length, ap, ◌∙◌}
use Rattle.vlog_tokens.specs.declared.fixed.Fixed.TheVariants as sign
use Rattle.vlog_tokens.specs.Tokens.{spots_at}
use Rattle.vlog_tokens.specs.Tokens.{TokenValue as token}
use Rattle.vlog_forms.specs.Reading.{read_tokens}
use Rattle.vlog_form_parser.proofs.Steps.{tokens-cons, tokens-stuck, tokens-along}
use Rattle.vlog_form_parser.proofs.slots.expect_part.Goals as goal

pub returns-in-Err-expect_token-clause-reads : goal.returns-in-Err-expect_token-clause-reads
returns-in-Err-expect_token-clause-reads c =
    let end = length c.args.bytes.now in
    tokens-cons end (token.name c.args.name.now) (token.fixed sign.OpenBracket ∷ token.number c.args.k ∷ token.fixed sign.CloseBracket ∷ []) (spots_at c.args.bytes.now c.args.from) _ c.in-Ok.ensures.reads
    ∙ tokens-stuck end (token.fixed sign.OpenBracket) (token.number c.args.k ∷ token.fixed sign.CloseBracket ∷ []) (spots_at c.args.bytes.now c.in-Ok.end) _ c.in-Err-expect_token.ensures.reads

pub returns-in-Err-expect_token-2-clause-reads : goal.returns-in-Err-expect_token-2-clause-reads
returns-in-Err-expect_token-2-clause-reads c =
    let end = length c.args.bytes.now in
    let same : c.args.k ≡ c.from.result = cc in
    tokens-cons end (token.name c.args.name.now) (token.fixed sign.OpenBracket ∷ token.number c.args.k ∷ token.fixed sign.CloseBracket ∷ []) (spots_at c.args.bytes.now c.args.from) _ c.in-Ok.ensures.reads
    ∙ tokens-cons end (token.fixed sign.OpenBracket) (token.number c.args.k ∷ token.fixed sign.CloseBracket ∷ []) (spots_at c.args.bytes.now c.in-Ok.end) _ c.in-Ok-expect_token.ensures.reads
    ∙ ap (λ k. read_tokens end (token.number k ∷ token.fixed sign.CloseBracket ∷ []) (spots_at c.args.bytes.now c.in-Ok-expect_token.end)) same
    ∙ tokens-stuck end (token.number c.from.result) (token.fixed sign.CloseBracket ∷ []) (spots_at c.args.bytes.now c.in-Ok-expect_token.end) _ c.in-Err-expect_token-2.ensures.reads

pub returns-in-Ok-expect_token-2-clause-reads : goal.returns-in-Ok-expect_token-2-clause-reads
returns-in-Ok-expect_token-2-clause-reads c =
    let end = length c.args.bytes.now in
    let same : c.args.k ≡ c.from.result = cc in
    tokens-along _ _ c.args.bytes.now c.expect_token-in-Ok-expect_token-2.result
    (tokens-cons end (token.name c.args.name.now) (token.fixed sign.OpenBracket ∷ token.number c.args.k ∷ token.fixed sign.CloseBracket ∷ []) (spots_at c.args.bytes.now c.args.from) _ c.in-Ok.ensures.reads
    ∙ tokens-cons end (token.fixed sign.OpenBracket) (token.number c.args.k ∷ token.fixed sign.CloseBracket ∷ []) (spots_at c.args.bytes.now c.in-Ok.end) _ c.in-Ok-expect_token.ensures.reads
    ∙ ap (λ k. read_tokens end (token.number k ∷ token.fixed sign.CloseBracket ∷ []) (spots_at c.args.bytes.now c.in-Ok-expect_token.end)) same
    ∙ tokens-cons end (token.number c.from.result) (token.fixed sign.CloseBracket ∷ []) (spots_at c.args.bytes.now c.in-Ok-expect_token.end) _ c.in-Ok-expect_token-2.ensures.reads)
    c.expect_token-in-Ok-expect_token-2.ensures.reads
