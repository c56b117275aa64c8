use Rattle.vlog_print.proofs.slots.+write_more_again.Given as goal

abbrev pub decreases-write_more_again : goal.decreases-write_more_again
decreases-write_more_again l = l.count
