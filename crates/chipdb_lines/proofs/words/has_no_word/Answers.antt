use Rattle.std.proofs.Common.{◌∙◌}
use Rattle.chipdb_lines.proofs.Choices.{no_word-blanks}
use Rattle.chipdb_lines.proofs.words.has_no_word.Goals as goal

pub returns : goal.returns
returns c = c.are_blanks.ensures ∙ no_word-blanks c.args.words.now
