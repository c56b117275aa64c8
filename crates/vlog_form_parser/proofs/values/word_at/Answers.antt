use Rattle.std.proofs.Common.{ap, sym, ◌∙◌}
use Rattle.vlog_forms.specs.Items.{word_in}
use Rattle.vlog_form_parser.proofs.values.word_at.Goals as goal

pub returns-in-Some : goal.returns-in-Some
returns-in-Some c = let there = c.in-Some.ensures in c.word_of.ensures there.0 ∙ ap word_in (sym there.1)

pub returns-in-None : goal.returns-in-None
returns-in-None c = sym (ap word_in c.in-None.ensures)
