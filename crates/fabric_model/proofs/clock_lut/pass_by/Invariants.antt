use Rattle.fabric_model.proofs.clock_lut.pass_by.Given as goal

abbrev pub ghost-pass_along : goal.ghost-pass_along
ghost-pass_along g a = g.connected
