use Rattle.fabric_wiring.proofs.clocking.append_clock.Given as goal

abbrev pub ghost-clock_class : goal.ghost-clock_class
ghost-clock_class g a = g.fabric
