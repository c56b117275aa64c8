use Rattle.std.proofs.Common.{arith}
use Rattle.vlog_semantics.proofs.Holding.{Holds-push}
use Rattle.vlog_semantics.proofs.named.Named.add.Goals as goal

pub returns : goal.returns
returns g c entries holds =
    Holds-push c.args.self.now entries c.args.name.now c.args.value c.add.new.self c.push.new.self c.len.result holds (omega (arith, c.len.ensures, c.args.self.now.values.ok.0)) c.in_ok-add.ensures c.in_ok-push.ensures.items
