use Rattle.std.proofs.Common.{sym}
use Rattle.fabric.proofs.Evidence.{clocks-evidence}
use Rattle.fabric.proofs.wire.clocked.Goals as goal

pub returns-in-Some-clause-refused : goal.returns-in-Some-clause-refused
returns-in-Some-clause-refused g c =
    let is = sym (rw c.in-Some.is at c.first_unclocked.ensures) in
    (is, clocks-evidence c.args.device g.fabric c.requires.1.1 c.in-Some.found.x c.in-Some.found.y c.in-Some.found.user c.in-Some.found.net is)
