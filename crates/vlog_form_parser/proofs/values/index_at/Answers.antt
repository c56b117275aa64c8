use Rattle.std.proofs.Common.{ap, sym, ◌∙◌}
use Rattle.vlog_forms.specs.Items.{index_in}
use Rattle.vlog_form_parser.proofs.values.index_at.Goals as goal

pub returns-in-Some : goal.returns-in-Some
returns-in-Some c = let there = c.in-Some.ensures in c.index_of.ensures there.0 ∙ ap index_in (sym there.1)

pub returns-in-None : goal.returns-in-None
returns-in-None c = sym (ap index_in c.in-None.ensures)
