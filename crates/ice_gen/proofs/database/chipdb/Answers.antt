use Rattle.std.proofs.Common.{length, ap, arith}
use Rattle.ice_gen.proofs.Size.{database-size}
use Rattle.ice_gen.proofs.database.chipdb.Goals as goal

pub returns-clause-limit : goal.returns-clause-limit
returns-clause-limit c = omega (arith, ap length c.in_ok-text.ensures, database-size c.args.device)
