use Rattle.chipdb_reader.proofs.TextChanges.{found-is}
use Rattle.chipdb_reader.proofs.texts.Texts.find.Goals as goal

pub returns : goal.returns
returns c = found-is c.args.self.now c.args.text.now c.find.result c.requires c.find.ensures
