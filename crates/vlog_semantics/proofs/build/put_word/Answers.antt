use Rattle.std.proofs.Common.{refl}
use Rattle.vlog_semantics.proofs.Holding.{Holds-put_word}
use Rattle.vlog_semantics.proofs.build.put_word.Goals as goal

pub returns-in-Some : goal.returns-in-Some
returns-in-Some c entries holds =
    Holds-put_word c.args.memories.now entries c.args.name.now c.args.k c.args.word _ c.set_word.new.memories holds c.in-Some.ensures c.set_word.ensures

pub returns-in-None : goal.returns-in-None
returns-in-None c entries holds =
    Holds-put_word c.args.memories.now entries c.args.name.now c.args.k c.args.word _ c.args.memories.now.values holds c.in-None.ensures refl
