use Rattle.std.proofs.Common.{◌≡◌, ◌+◌, ◌*◌, ◌/◌, ◌++◌, [], ◌∷◌, map, refl, sym, ap, ◌∙◌, append_assoc, add-one, mul-suc, arith}
use Rattle.std.specs.List.{range_with_len}
use Rattle.text_lines.specs.Written.{text_of}
use Rattle.random_words.specs.Draws.{digits_from, drawn_from, drawn_line, state_after}
use Rattle.random_words.proofs.Drawn.{lines-more, state_after-sum}
use Rattle.random_words.proofs.drawing.drawn_from.Goals as goal

pub loop-init : goal.loop-init
unfolding text_of state_after
loop-init c =
    let none : c.args.size.width / 4 * 0 ≡ 0 = omega arith in
    (c.new-text.ensures.items, rw none refl)

pub loop-preserved : goal.loop-preserved
loop-preserved c =
    let start = c.args.rng in
    let digits = c.args.size.width / 4 in
    let count = c.loop.counter in
    let before = text_of (map (drawn_line start digits) (range_with_len 0 count)) in
    let is = c.digits.ensures in
    let line = ap (λ n. digits_from c.loop.rng n) is ∙ ap (λ state. digits_from state digits) c.loop.invariant.1 in
    let next : digits * (count + 1) ≡ digits * count + digits = rw add-one (mul-suc digits count) in (
      c.in_ok-push.ensures.items ∙ ap (λ xs. xs ++ 10 ∷ []) (c.in_ok-append_digits.ensures.text ∙ ap (λ xs. xs ++ digits_from c.loop.rng c.digits.result) c.loop.invariant.0 ∙ ap (λ xs. before ++ xs) line)
          ∙ append_assoc before (drawn_line start digits count) (10 ∷ []) ∙ lines-more start digits count,
      c.in_ok-append_digits.ensures.state ∙ ap (λ n. state_after n c.loop.rng) is ∙ ap (state_after digits) c.loop.invariant.1
          ∙ sym (ap (λ n. state_after n start) next ∙ state_after-sum (digits * count) digits start),
    )

pub returns : goal.returns
unfolding drawn_from
returns c =
    let all : c.loop.counter ≡ c.args.size.depth = omega arith in
    c.loop.invariant.0 ∙ ap (λ n. text_of (map (drawn_line c.args.rng (c.args.size.width / 4)) (range_with_len 0 n))) all
