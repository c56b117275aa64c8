use Rattle.vlog_engine.proofs.Placed.{reader-adds}
use Rattle.vlog_engine.proofs.watching.add_once.Goals as goal

pub returns : goal.returns
returns c = reader-adds c.args.place c.args.cell c.args.readers.now.items c.add_reader.new.readers.items c.in_ok-add_reader.ensures
