use Rattle.asc_text.proofs.Packed.{eight_odds}
use Rattle.asc_text.proofs.reading.eights.packed.Goals as goal

pub returns : goal.returns
returns c = λ bytes eight word_is. eight_odds c.args.word bytes eight word_is
