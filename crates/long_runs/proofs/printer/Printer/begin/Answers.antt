use Rattle.std.proofs.Common.{arith, refl}
use Rattle.long_runs.proofs.Printed.{prints-kept}
use Rattle.long_runs.proofs.printer.Printer.begin.Goals as goal

pub returns-clause-prints : goal.returns-clause-prints
returns-clause-prints c m entry prints = prints-kept c.args.self.now _ m entry refl refl refl refl (omega (arith, c.clear.ensures.capacity)) prints
