use Rattle.fabric_wiring.proofs.clocking.clocked_row.Given as goal

abbrev pub ghost-append_clocks : goal.ghost-append_clocks
ghost-append_clocks g a = g.fabric
