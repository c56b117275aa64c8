use Rattle.pin_file.proofs.PinSteps.{keys-inserted}
use Rattle.pin_file.proofs.name_set.NameSet.insert.Goals as goal

pub returns : goal.returns
returns c =
    keys-inserted (λ key. key.items) c.self.inside.names.keys c.insert.new.self.keys c.args.name c.args.self.now
    c.in_ok-insert.ensures.keys c.self.view_is
