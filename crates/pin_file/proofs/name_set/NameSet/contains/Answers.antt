use Rattle.std.proofs.Common.{◌∙◌, ap}
use Rattle.pin_file.specs.PortNames.{has_name}
use Rattle.pin_file.proofs.PinSteps.{any-keys}
use Rattle.pin_file.proofs.name_set.NameSet.contains.Goals as goal

pub returns : goal.returns
returns c =
    c.contains.ensures ∙ any-keys (λ key. key.items) c.args.name.now c.self.inside.names.keys
    ∙ ap (λ names. has_name names c.args.name.now) c.self.view_is
