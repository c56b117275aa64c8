use Rattle.std.proofs.Common.{◌≡◌, ◌++◌, List, [], ℕ, sym, subst, ◌∙◌}
use Rattle.std.proofs.lemmas.Result.{err_from_is_err_and}
use Rattle.text_lines.specs.Lines.{lines_of}
use Rattle.text_lines.specs.Feeding.{TakesLines, RefusesLines, HasFront}
use Rattle.text_lines.proofs.Fronts.{front-takes, front-refuses, not-empty}
use Rattle.text_lines.proofs.feed.take_kept.Goals as goal

pub returns-in_err-take_lines-clause-refused : goal.returns-in_err-take_lines-clause-refused
returns-in_err-take_lines-clause-refused g c =
    let kept = c.args.kept.now.items in
    let end = c.args.end.now in
    let has_taken = g.T.LineTaker.has_taken in
    let refuses = g.T.LineTaker.refuses in
    let refusal = c.in_err-take_lines.field-0.0 in
    let line : c.deref.result.now ≡ kept ++ end = c.deref.ensures.value ∙ c.in_ok-keep.ensures.kept in
    let refused = subst (λ (t : List ℕ). RefusesLines has_taken refuses c.args.taker.now (lines_of t) refusal) line c.in_err-take_lines.ensures.refused in
    let p = err_from_is_err_and c.from_residual-in_err-take_lines.result c.from_residual-in_err-take_lines.ensures.1 in
    rw (p.1, p.2) (λ setting text more has. front-refuses has_taken refuses setting c.args.taker.now text end kept more refusal (c.requires.ended (not-empty end (sym c.is_empty.ensures ∙ c.if-is_empty.false))) refused has)

pub returns-clause-taken : goal.returns-clause-taken
returns-clause-taken g c =
    let kept = c.args.kept.now.items in
    let end = c.args.end.now in
    let has_taken = g.T.LineTaker.has_taken in
    let after = c.take_lines.new.self in
    let line : c.deref.result.now ≡ kept ++ end = c.deref.ensures.value ∙ c.in_ok-keep.ensures.kept in
    let takes = subst (λ (t : List ℕ). TakesLines has_taken c.args.taker.now after (lines_of t)) line c.in_ok-take_lines.ensures.taken in
    let none : [] ≡ c.clear.new.self.items = sym c.clear.ensures.items in
    λ setting text has.
    subst (λ (k : List ℕ). HasFront has_taken setting (text ++ end) after k) none
    (front-takes has_taken setting c.args.taker.now after text end kept (c.requires.ended (not-empty end (sym c.is_empty.ensures ∙ c.if-is_empty.false))) takes has)
