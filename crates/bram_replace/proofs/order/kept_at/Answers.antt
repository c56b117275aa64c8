use Rattle.std.proofs.Common.{◌/◌, ◌<◌, subst, sym, ◌∙◌}
use Rattle.bram_replace.proofs.Orders.{kept-within, width-some}
use Rattle.bram_replace.proofs.order.kept_at.Goals as goal

pub nonzero_div-address : goal.nonzero_div-address
nonzero_div-address c = subst (λ words. 0 < 16 / words) (sym (c.from-words.ensures ∙ c.share.ensures.is)) (width-some c.args.mode c.requires.mode)

pub nonzero_rem-bit : goal.nonzero_rem-bit
nonzero_rem-bit c = subst (λ words. 0 < 16 / words) (sym (c.from-words.ensures ∙ c.share.ensures.is)) (width-some c.args.mode c.requires.mode)

pub returns-clause-within : goal.returns-clause-within
returns-clause-within c =
    rw (c.reversed.ensures.is, c.from-words.ensures, c.share.ensures.is) (kept-within c.args.mode c.args.place c.args.column c.requires.mode c.requires.place c.requires.column)
