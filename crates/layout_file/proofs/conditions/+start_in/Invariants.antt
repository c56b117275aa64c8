use Rattle.layout_file.proofs.conditions.+start_in.Given as goal

abbrev pub decreases-start_in : goal.decreases-start_in
decreases-start_in l = l.columns
