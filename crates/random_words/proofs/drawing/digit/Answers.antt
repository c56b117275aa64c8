use Rattle.std.proofs.Common.{◌/◌, ◌^◌, ap, ◌∙◌, slice_index}
use Rattle.hex.specs.Hex.{lower_digits}
use Rattle.random_words.specs.Draws.{digit_at, state_after}
use Rattle.random_words.proofs.drawing.digit.Goals as goal

pub returns-clause-digit : goal.returns-clause-digit
unfolding digit_at state_after
returns-clause-digit c = c.digit_with.ensures ∙ ap (λ next. slice_index lower_digits (next.0 / 2 ^ 60)) c.next_word.ensures

pub returns-clause-state : goal.returns-clause-state
unfolding state_after
returns-clause-state c = ap (λ next. next.1) c.next_word.ensures
