use Rattle.chipdb_lines.proofs.Heads.{statement-without_words}
use Rattle.chipdb_lines.proofs.statements.statement.Goals as goal

pub returns-in-None-clause-says : goal.returns-in-None-clause-says
returns-in-None-clause-says c = statement-without_words c.args.chip _ c.in-None.ensures.words
