use Rattle.design_tools.proofs.writing.WritingPieceTool.feed.Goals as goal

pub returns-clause-taken : goal.returns-clause-taken
returns-clause-taken c = c.feed.ensures.taken
