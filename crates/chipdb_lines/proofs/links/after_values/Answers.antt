use Rattle.std.proofs.Common.{◌≡◌, sym, ◌∙◌, arith, refl, true≢false}
use Rattle.chipdb_lines.proofs.Choices.{choice-line}
use Rattle.chipdb_lines.proofs.Missed.{choice-net, one-number}
use Rattle.chipdb_lines.proofs.links.after_values.Goals as goal

pub returns-in_err-src : goal.returns-in_err-src
returns-in_err-src c =
    rw c.from_residual.ensures (λ has. let net = choice-net c.args.nets c.args.values.now c.args.text.now has in c.in_err-src.ensures.is refl net.number net.rest net.starts)

pub returns-in_err-values : goal.returns-in_err-values
returns-in_err-values c =
    rw c.from_residual-in_err-values.ensures (λ has. let net = choice-net c.args.nets c.args.values.now c.args.text.now has in absurd (true≢false (sym net.all ∙ c.in_err-values.ensures)))

pub returns-then-src-nets : goal.returns-then-src-nets
returns-then-src-nets c =
    choice-line c.args.nets c.args.values.now c.args.text.now _ _ c.requires.some c.in_ok-values.ensures c.in_ok-src.ensures.is c.if-src-nets.true

pub returns-else-src-nets : goal.returns-else-src-nets
returns-else-src-nets c = λ has.
    let net = choice-net c.args.nets c.args.values.now c.args.text.now has in
    let same : c.in_ok-src.src ≡ net.number = one-number c.args.text.now c.in_ok-src.src net.number c.in_ok-src.rest.now net.rest c.in_ok-src.ensures.is net.starts in
    omega (arith, same, net.below, c.if-src-nets.false)
