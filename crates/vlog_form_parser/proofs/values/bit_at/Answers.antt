use Rattle.std.proofs.Common.{ap, sym, ◌∙◌}
use Rattle.vlog_forms.specs.Items.{bit_in}
use Rattle.vlog_form_parser.proofs.values.bit_at.Goals as goal

pub returns-in-Some : goal.returns-in-Some
returns-in-Some c = let there = c.in-Some.ensures in c.bit_of.ensures there.0 ∙ ap bit_in (sym there.1)

pub returns-in-None : goal.returns-in-None
returns-in-None c = sym (ap bit_in c.in-None.ensures)
