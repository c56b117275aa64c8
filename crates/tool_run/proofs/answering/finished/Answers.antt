use Rattle.std.proofs.Common.{[], subst}
use Rattle.tool_run.specs.Intakes.{TakesOrStops}
use Rattle.tool_run.proofs.answering.finished.Goals as goal

pub returns-in-Err : goal.returns-in-Err
returns-in-Err g c = λ layout texts taken.
    let T = g.T.PieceTool in
    let tool = c.args.tool.now in
    subst (λ kept. TakesOrStops (T.takes tool layout texts) (T.answer_of tool layout) kept []) c.in-Err.is taken texts
