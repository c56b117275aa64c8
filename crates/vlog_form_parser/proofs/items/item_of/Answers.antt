use Rattle.vlog_forms.specs.Items.{item_of}
use Rattle.vlog_form_parser.proofs.items.item_of.Goals as goal

pub returns-in-Input : goal.returns-in-Input
unfolding item_of
returns-in-Input c = rw c.in-Input.is c.start_of-in-Input.ensures

pub returns-in-Output : goal.returns-in-Output
unfolding item_of
returns-in-Output c = rw c.in-Output.is c.start_of-in-Output.ensures

pub returns-in-End : goal.returns-in-End
unfolding item_of
returns-in-End c = rw c.in-End.is c.start_of-in-End.ensures
