use Rattle.std.proofs.Common.{refl}
use Rattle.name_set.proofs.Keys.{names-with}
use Rattle.name_set.proofs.set.NameSet.push.Goals as goal

pub returns : goal.returns
returns c =
    names-with (λ key. key.now) c.self.inside.names.keys c.insert.new.self.keys c.args.name c.args.self.now c.args.name.now
    c.in_ok-insert.ensures.keys c.self.view_is refl
