use Rattle.bram_replace.proofs.Orders.{stands-within}
use Rattle.bram_replace.proofs.order.stands_at.Goals as goal

pub returns-clause-within : goal.returns-clause-within
returns-clause-within c =
    rw (c.reversed.ensures.is, c.from-words.ensures, c.share.ensures.is) (stands-within c.args.mode c.args.word c.args.bit c.requires.mode c.requires.word c.requires.bit)
