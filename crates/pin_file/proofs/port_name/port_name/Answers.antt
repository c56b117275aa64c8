use Rattle.std.proofs.lemmas.Result.{IfOk-weaker}
use Rattle.pin_file.proofs.SafeNames.{made-named}
use Rattle.pin_file.proofs.port_name.port_name.Goals as goal

pub returns-clause-usable : goal.returns-clause-usable
returns-clause-usable c =
    IfOk-weaker c.usable_name.result _ _ (λ port is. made-named c.args.name.now c.in_ok-plain.plain.items port.items c.in_ok-plain.ensures is) c.usable_name.ensures
