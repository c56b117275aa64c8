use Rattle.std.proofs.Common.{◌∙◌, ap}
use Rattle.name_set.specs.Sets.{has_name}
use Rattle.name_set.proofs.Keys.{any-keys}
use Rattle.name_set.proofs.set.NameSet.contains.Goals as goal

pub returns : goal.returns
returns c =
    c.contains.ensures ∙ any-keys (λ key. key.now) c.args.name.now c.self.inside.names.keys
    ∙ ap (λ names. has_name names c.args.name.now) c.self.view_is
