use Rattle.std.proofs.Common.{refl}
use Rattle.std.proofs.lemmas.Result.{on_ok_weaker}
use Rattle.wire_names.proofs.Giving.{names-more}
use Rattle.wire_names.proofs.naming.Naming.give.Goals as goal

pub returns : goal.returns
returns c =
    on_ok_weaker c.push-2.result (λ pushed m earlier known.
    names-more m earlier c.args.self.now _ c.args.wire.now c.args.name.now known refl pushed c.in_ok-push.ensures) c.push-2.ensures
