use Rattle.chipdb_lines.proofs.Headed.{words-after_space}
use Rattle.chipdb_lines.proofs.bits.bit_after_space.Goals as goal

pub returns-clause-words : goal.returns-clause-words
returns-clause-words c = rw (words-after_space c.args.words.now) c.bit_in_front.ensures.words
