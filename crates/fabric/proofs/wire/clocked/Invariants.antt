use Rattle.fabric.proofs.wire.clocked.Given as goal

abbrev pub ghost-first_unclocked : goal.ghost-first_unclocked
ghost-first_unclocked g a = g.fabric
