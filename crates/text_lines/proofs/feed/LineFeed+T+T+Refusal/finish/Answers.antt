use Rattle.std.proofs.Common.{List, ℕ, [], subst}
use Rattle.std.proofs.lemmas.List.{append-nil}
use Rattle.text_lines.specs.Lines.{lines_of}
use Rattle.text_lines.specs.Feeding.{HasFed}
use Rattle.text_lines.proofs.feed.LineFeed+T+T+Refusal.finish.Goals as goal

pub returns-in-Some-clause-refused : goal.returns-in-Some-clause-refused
returns-in-Some-clause-refused g c = λ setting text stands.
    let self = c.args.self in
    let refuses = g.T.LineTaker.refuses in
    let refused = subst (λ r. HasFed g.T.LineTaker.has_taken refuses setting text r self.taker self.kept.items) c.in-Some.is stands in
    subst (λ (t : List ℕ). refuses setting (lines_of t) c.in-Some.refusal) (append-nil text) (refused [])
