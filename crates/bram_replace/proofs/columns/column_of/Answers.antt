use Rattle.bram_replace.proofs.Packing.{packed-quarters}
use Rattle.bram_replace.proofs.columns.column_of.Goals as goal

pub returns : goal.returns
returns c = packed-quarters c.args.bits.now c.args.first c.args.step _ _ _ _ c.word_of.ensures.is c.word_of-2.ensures.is c.word_of-3.ensures.is c.word_of-4.ensures.is
