use Rattle.fabric_wiring.proofs.clocking.clocked_wires.Given as goal

abbrev pub ghost-clocked_rows : goal.ghost-clocked_rows
ghost-clocked_rows g a = g.fabric
