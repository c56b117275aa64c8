use Rattle.fabric_wiring.proofs.ends.end_through.Given as goal

abbrev pub ghost-pass_of : goal.ghost-pass_of
ghost-pass_of g a = g.connected
