use Rattle.asc_text.proofs.Packed.{eight_bits}
use Rattle.asc_text.proofs.reading.eights.are_bits.Goals as goal

pub returns : goal.returns
returns c = λ bytes eight word_is. eight_bits c.args.word bytes eight word_is
