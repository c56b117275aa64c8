use Rattle.vlog_form_parser.proofs.slots.+read_next_atom.Given as goal

abbrev pub decreases-read_next_atom : goal.decreases-read_next_atom
decreases-read_next_atom l = l.count
