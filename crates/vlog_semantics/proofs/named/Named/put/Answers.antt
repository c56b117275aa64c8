use Rattle.std.proofs.Common.{refl}
use Rattle.vlog_semantics.proofs.Holding.{Holds-put}
use Rattle.vlog_semantics.proofs.named.Named.put.Goals as goal

pub returns-in-Some : goal.returns-in-Some
returns-in-Some g c entries holds =
    Holds-put c.args.self.now entries c.args.name.now c.args.value _ c.set.new.values holds c.in-Some.ensures c.set.ensures

pub returns-in-None : goal.returns-in-None
returns-in-None g c entries holds =
    Holds-put c.args.self.now entries c.args.name.now c.args.value _ c.args.self.now.values holds c.in-None.ensures refl
