use Rattle.chipdb_reader.proofs.line_reader.finish.Goals as goal

pub of-requires-clause-fit : goal.of-requires-clause-fit
of-requires-clause-fit c = λ kept fits. c.requires.fit c.in-Some.chip kept c.in-Some.is fits

pub of-requires-clause-sound : goal.of-requires-clause-sound
of-requires-clause-sound c = λ kept fits. c.requires.sound c.in-Some.chip kept c.in-Some.is fits
