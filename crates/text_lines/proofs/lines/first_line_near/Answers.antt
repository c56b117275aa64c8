use Rattle.std.proofs.Common.{◌≡◌, ◌∙◌, ◌≤◌, ◌∷◌, length, take, drop, ◌-◌, ◌+◌, ap, sym, false, ◌==◌, arith}
use Rattle.text_lines.specs.Lines.{lines_of}
use Rattle.text_lines.proofs.Written.{lf_place, chomped-is, first_line-ended, first_line-whole, whole_line-ended, whole_line-whole}
use Rattle.text_lines.proofs.lines.first_line_near.Goals as goal

pub returns-then-end-text-clause-lines : goal.returns-then-end-text-clause-lines
returns-then-end-text-clause-lines c =
    let end = c.length_before_lf-end.result in
    first_line-ended c.args.text.now end c.length_before_lf-end.ensures c.if-end-text.true
    ∙ ap (λ line. line ∷ lines_of (take (length c.args.text.now - (end + 1)) (drop (end + 1) c.args.text.now))) (chomped-is (take end c.args.text.now) ∙ sym c.without_cr.ensures)

pub returns-then-end-text-clause-whole_lines : goal.returns-then-end-text-clause-whole_lines
returns-then-end-text-clause-whole_lines c = whole_line-ended c.args.text.now c.length_before_lf-end.result c.length_before_lf-end.ensures c.if-end-text.true

pub returns-else-end-text-clause-lines : goal.returns-else-end-text-clause-lines
returns-else-end-text-clause-lines c =
    let full : (length c.args.text.now == 0) ≡ false = sym c.is_empty.ensures ∙ c.if-is_empty.false in
    let within : length c.args.text.now ≤ lf_place c.args.text.now = omega (arith, c.length_before_lf-end.ensures) in
    first_line-whole c.args.text.now full within

pub returns-else-end-text-clause-whole_lines : goal.returns-else-end-text-clause-whole_lines
returns-else-end-text-clause-whole_lines c =
    let full : (length c.args.text.now == 0) ≡ false = sym c.is_empty.ensures ∙ c.if-is_empty.false in
    let within : length c.args.text.now ≤ lf_place c.args.text.now = omega (arith, c.length_before_lf-end.ensures) in
    whole_line-whole c.args.text.now full within
