use Rattle.std.proofs.Common.{◌≡◌, ◌++◌, List, ℕ, length, sym, subst, ◌∙◌}
use Rattle.std.proofs.lemmas.Result.{err_from_is_err_and, on_ok_weaker}
use Rattle.text_lines.specs.Lines.{lines_of}
use Rattle.text_lines.specs.Feeding.{HasFront}
use Rattle.text_lines.proofs.Fronts.{front-keeps, front-lines, front-refuses_lines, none_kept, piece-is, after-end, after-lines}
use Rattle.text_lines.proofs.feed.take_piece.Goals as goal

pub returns-in_err-take_kept-clause-refused : goal.returns-in_err-take_kept-clause-refused
returns-in_err-take_kept-clause-refused g c =
    let cut = c.cut_piece-cut.result in
    let refuses = g.T.LineTaker.refuses in
    let refusal = c.in_err-take_kept.field-0.0 in
    let p = err_from_is_err_and c.from_residual.result c.from_residual.ensures.1 in
    rw (p.1, p.2) (λ setting text more has.
    subst (λ (t : List ℕ). refuses setting (lines_of t) refusal) (after-end text c.args.piece.now cut.end.now cut.lines.now cut.unended.now more c.cut_piece-cut.ensures.parts)
    (c.in_err-take_kept.ensures.refused setting text (cut.lines.now ++ cut.unended.now ++ more) has))

pub returns-in_err-take_lines-clause-refused : goal.returns-in_err-take_lines-clause-refused
returns-in_err-take_lines-clause-refused g c =
    let cut = c.cut_piece-cut.result in
    let of = c.cut_piece-cut.ensures in
    let before = c.in_ok-take_kept.ensures in
    let kept = c.take_kept.new.kept.items in
    let has_taken = g.T.LineTaker.has_taken in
    let refuses = g.T.LineTaker.refuses in
    let refusal = c.in_err-take_lines.field-0.0 in
    let same : length cut.end.now ≡ 0 → kept ≡ c.deref.result.now = λ nothing. before.same nothing ∙ sym c.deref.ensures.value in
    let none = none_kept cut.end.now c.deref.result.now kept cut.lines.now before.empty same of.going_on in
    let p = err_from_is_err_and c.from_residual-in_err-take_lines.result c.from_residual-in_err-take_lines.ensures.1 in
    rw (p.1, p.2) (λ setting text more has.
    subst (λ (t : List ℕ). refuses setting (lines_of t) refusal) (after-lines text c.args.piece.now cut.end.now cut.lines.now cut.unended.now more of.parts)
    (front-refuses_lines has_taken refuses setting c.take_kept.new.taker (text ++ cut.end.now) cut.lines.now kept (cut.unended.now ++ more) refusal none of.lines c.in_err-take_lines.ensures.refused (before.taken setting text has)))

pub returns-clause-taken : goal.returns-clause-taken
returns-clause-taken g c =
    let cut = c.cut_piece-cut.result in
    let of = c.cut_piece-cut.ensures in
    let before = c.in_ok-take_kept.ensures in
    let kept = c.take_kept.new.kept.items in
    let has_taken = g.T.LineTaker.has_taken in
    let after = c.take_lines.new.self in
    let same : length cut.end.now ≡ 0 → kept ≡ c.deref.result.now = λ nothing. before.same nothing ∙ sym c.deref.ensures.value in
    let none = none_kept cut.end.now c.deref.result.now kept cut.lines.now before.empty same of.going_on in
    on_ok_weaker c.keep.result (λ is_kept setting text has.
    let first = front-lines has_taken setting c.take_kept.new.taker after (text ++ cut.end.now) cut.lines.now kept none of.lines c.in_ok-take_lines.ensures.taken (before.taken setting text has) in
    let all = front-keeps has_taken setting after (text ++ cut.end.now ++ cut.lines.now) cut.unended.now kept of.rest first in
    subst (λ (t : List ℕ). HasFront has_taken setting t after c.keep.new.kept.items) (piece-is text c.args.piece.now cut.end.now cut.lines.now cut.unended.now of.parts)
    (subst (λ (k : List ℕ). HasFront has_taken setting (text ++ cut.end.now ++ cut.lines.now ++ cut.unended.now) after k) (sym is_kept) all)) c.keep.ensures.kept
