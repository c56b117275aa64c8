use Rattle.std.proofs.Common.{◌++◌, ◌==◌, List, ℕ, sym, subst, ◌∙◌}
use Rattle.std.proofs.lemmas.Bool.{eqb-true}
use Rattle.std.proofs.lemmas.List.Quantifiers.{position-Some}
use Rattle.text_lines.specs.Pieces.{HasWholeLines}
use Rattle.text_lines.proofs.WholeLines.{whole-none, whole-after, ended-nowhere}
use Rattle.text_lines.proofs.pieces.cut_piece.Goals as goal

pub returns-in-Some-clause-ended : goal.returns-in-Some-clause-ended
returns-in-Some-clause-ended c = λ some.
    let found = position-Some (λ byte. byte == 10) c.args.piece.now c.in-Some.offset 0 (sym c.first_lf.ensures ∙ c.in-Some.is) in
    let whole = whole-after c.args.kept.now c.args.piece.now c.in-Some.offset found.0 (eqb-true _ 10 found.1) in
    subst (λ (end : List ℕ). HasWholeLines (c.args.kept.now ++ end)) (sym c.cut_after-in-Some.ensures.end) whole

pub returns-in-None-clause-lines : goal.returns-in-None-clause-lines
returns-in-None-clause-lines c = whole-none

pub returns-in-None-clause-rest : goal.returns-in-None-clause-rest
returns-in-None-clause-rest c = ended-nowhere c.args.piece.now (sym c.in-None.ensures)
