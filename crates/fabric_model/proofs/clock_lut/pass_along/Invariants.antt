use Rattle.fabric_model.proofs.clock_lut.pass_along.Given as goal

abbrev pub ghost-is_at_open : goal.ghost-is_at_open
ghost-is_at_open g a = g.connected
