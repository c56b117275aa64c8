use Rattle.std.proofs.Common.{ap}
use Rattle.std.specs.Prelude.{option_copied}
use Rattle.asc_text.specs.Canonical.{comment_lines}
use Rattle.asc_text.proofs.Pieces.{nothing-written}
use Rattle.asc_text.proofs.writing.writer.append_comment.Goals as goal

pub returns-in-None-clause-text : goal.returns-in-None-clause-text
returns-in-None-clause-text c = nothing-written c.args.text.now.items (comment_lines (option_copied c.args.comment)) (ap (λ comment. comment_lines (option_copied comment)) c.in-None.is)
