use Rattle.fabric_model.proofs.clock_lut.pass_of.Given as goal

abbrev pub ghost-is_at_open : goal.ghost-is_at_open
ghost-is_at_open g a = g.connected

abbrev pub ghost-pass_by : goal.ghost-pass_by
ghost-pass_by g a = g.connected
