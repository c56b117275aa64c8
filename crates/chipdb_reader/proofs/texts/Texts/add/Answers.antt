use Rattle.chipdb_reader.proofs.TextChanges.{interns-pushed}
use Rattle.chipdb_reader.proofs.texts.Texts.add.Goals as goal

pub returns : goal.returns
returns c = interns-pushed c.args.self.now (record { arena = c.push.new.self }) c.args.text.now c.push.result c.requires.indexed c.requires.absent c.push.ensures.pushed c.push.ensures.last
