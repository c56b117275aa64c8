use Rattle.design_tools.proofs.writing.WritingPieceTool.close.Goals as goal

pub returns-clause-closed : goal.returns-clause-closed
returns-clause-closed c = c.close.ensures.closed
