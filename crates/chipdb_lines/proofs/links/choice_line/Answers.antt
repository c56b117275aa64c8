use Rattle.std.proofs.Common.{sym, ◌∙◌}
use Rattle.chipdb_lines.proofs.Missed.{no-choice}
use Rattle.chipdb_lines.proofs.links.choice_line.Goals as goal

pub returns-else-has_space_after : goal.returns-else-has_space_after
returns-else-has_space_after c = no-choice c.args.nets c.args.count c.args.text.now (sym c.has_space_after.ensures.is ∙ c.if-has_space_after.false)
