use Rattle.random_words.specs.Draws.{state_of}
use Rattle.random_words.proofs.Drawn.{drawn-faultless, drawn-size}
use Rattle.random_words.proofs.law.draws_are_memory_words.Goals as goal

pub returns-clause-faultless : goal.returns-clause-faultless
returns-clause-faultless c = λ seed draw. let size = c.args.size in drawn-faultless size.width size.depth (state_of seed draw) size.width_taken size.depth_taken

pub returns-clause-size : goal.returns-clause-size
returns-clause-size c = λ seed draw. let size = c.args.size in drawn-size size.width size.depth (state_of seed draw) size.width_taken size.depth_taken
