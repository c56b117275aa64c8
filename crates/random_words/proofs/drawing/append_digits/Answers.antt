use Rattle.std.proofs.Common.{◌++◌, [], ◌∷◌, refl, sym, ap, ◌∙◌, append-nil, append_assoc}
use Rattle.random_words.specs.Draws.{digit_at, digits_from, state_after}
use Rattle.random_words.proofs.Drawn.{digits_from-more, state_after-sum}
use Rattle.random_words.proofs.drawing.append_digits.Goals as goal

pub loop-init : goal.loop-init
unfolding state_after
loop-init c = (sym (append-nil c.args.text.now.items), refl)

pub loop-preserved : goal.loop-preserved
loop-preserved c =
    let old = c.args.text.now.items in
    let start = c.args.rng.now in
    let count = c.loop.counter in (
      c.in_ok-push.ensures.items ∙ ap (λ xs. xs ++ c.digit.result ∷ []) c.loop.invariant.0 ∙ append_assoc old (digits_from start count) (c.digit.result ∷ [])
          ∙ ap (λ xs. old ++ xs) (digits_from-more start count c.digit.result (c.digit.ensures.digit ∙ ap (λ state. digit_at state 0) c.loop.invariant.1)),
      c.digit.ensures.state ∙ ap (state_after 1) c.loop.invariant.1 ∙ sym (state_after-sum count 1 start),
    )
