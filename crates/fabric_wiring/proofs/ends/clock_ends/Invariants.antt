use Rattle.fabric_wiring.proofs.ends.clock_ends.Given as goal

abbrev pub ghost-follow : goal.ghost-follow
ghost-follow g a = g.fabric
