use Rattle.fabric_wiring.proofs.clocking.append_clocks_by.Given as goal

abbrev pub ghost-append_clocks_of : goal.ghost-append_clocks_of
ghost-append_clocks_of g a = g.fabric

abbrev pub ghost-append_clock : goal.ghost-append_clock
ghost-append_clock g a = g.fabric

abbrev pub ghost-read_clock : goal.ghost-read_clock
ghost-read_clock g a = g.fabric
