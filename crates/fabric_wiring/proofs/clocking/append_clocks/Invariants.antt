use Rattle.fabric_wiring.proofs.clocking.append_clocks.Given as goal

abbrev pub ghost-append_clocks_by : goal.ghost-append_clocks_by
ghost-append_clocks_by g a = g.fabric
