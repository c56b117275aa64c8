use Rattle.bram_replace.proofs.Orders.{columns-are-words}
use Rattle.bram_replace.proofs.law.ram_columns_are_its_words.Goals as goal

pub returns : goal.returns
returns c = columns-are-words
