use Rattle.vlog_form_parser.proofs.slots.+read_next_again.Given as goal

abbrev pub decreases-read_next_again : goal.decreases-read_next_again
decreases-read_next_again l = l.count
