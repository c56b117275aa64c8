use Rattle.std.proofs.lemmas.Result.{err_from_is_err_and}
use Rattle.text_lines.proofs.Fronts.{front-refuses_last}
use Rattle.text_lines.proofs.feed.take_last.Goals as goal

pub returns-in_err-take_lines-clause-refused : goal.returns-in_err-take_lines-clause-refused
returns-in_err-take_lines-clause-refused g c =
    let refusal = c.in_err-take_lines.field-0.0 in
    let p = err_from_is_err_and c.from_residual.result c.from_residual.ensures.1 in
    rw (p.1, p.2) (λ setting text has. front-refuses_last g.T.LineTaker.has_taken g.T.LineTaker.refuses setting c.args.taker text c.args.kept.now refusal c.in_err-take_lines.ensures.refused has)
