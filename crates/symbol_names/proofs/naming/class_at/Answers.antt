use Rattle.std.proofs.Common.{arith}
use Rattle.symbol_names.proofs.Classes.{class-past}
use Rattle.symbol_names.proofs.naming.class_at.Goals as goal

pub returns-else-net-net_count : goal.returns-else-net-net_count
returns-else-net-net_count c = class-past c.args.design.now c.args.net c.net_count.ensures.design (omega arith)
