use Rattle.fabric.proofs.wire.wire.Given as goal

abbrev pub ghost-drivers : goal.ghost-drivers
ghost-drivers g a = g.fabric

abbrev pub ghost-order : goal.ghost-order
ghost-order g a = g.fabric

abbrev pub ghost-clock_ends : goal.ghost-clock_ends
ghost-clock_ends g a = g.fabric

abbrev pub ghost-clocked_order : goal.ghost-clocked_order
ghost-clocked_order g a = g.fabric

abbrev pub ghost-clocked : goal.ghost-clocked
ghost-clocked g a = g.fabric

abbrev pub ghost-outputs : goal.ghost-outputs
ghost-outputs g a = g.fabric
