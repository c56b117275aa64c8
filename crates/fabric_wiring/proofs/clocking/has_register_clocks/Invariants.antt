use Rattle.fabric_wiring.proofs.clocking.has_register_clocks.Given as goal

abbrev pub ghost-clocks_register : goal.ghost-clocks_register
ghost-clocks_register g a = g.fabric

abbrev pub ghost-clocks_ram : goal.ghost-clocks_ram
ghost-clocks_ram g a = g.fabric
