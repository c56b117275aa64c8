use Rattle.layout_file.proofs.conditions.+are_wide.Given as goal

abbrev pub decreases-are_wide : goal.decreases-are_wide
decreases-are_wide l = l.columns
